use Rattle.std.proofs.Common.{rules, ◌≡◌, ◌∙◌, drop, ap, sym}
use Rattle.snapshot_cell.specs.declared.kept.Kept.{Kept}
use Rattle.snapshot_cell.proofs.writer.turn.Goals as goal

pub tries-preserved : goal.tries-preserved
tries-preserved g c =
    let inv = c.tries.invariant in
    let now = c.tries.inner in
    let next = c.replace_with.new.dest in
    let kept : drop next.behind next.log.items ≡ drop now.behind now.log.items = search rules in
    let same : next.desk.shown.value ≡ now.desk.shown.value = search rules in (
      (inv.0.0, inv.0.1, kept ∙ inv.0.2, inv.0.3 ∙ sym (ap (λ (k : Kept). k.front.seen.book) same)),
      kept ∙ inv.1,
      same ∙ inv.2,
    )
