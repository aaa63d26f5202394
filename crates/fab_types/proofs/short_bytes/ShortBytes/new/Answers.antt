use Rattle.std.proofs.Common.{length, drop, replicate, ap, ◌∙◌}
use Rattle.std.proofs.lemmas.List.{drop_at, drop-replicate}
use Rattle.fab_types.proofs.short_bytes.ShortBytes.new.Goals as goal

pub invariant_of-result : goal.invariant_of-result
invariant_of-result g c =
    let n = length c.args.bytes.now in
    let copied = c.copy_from_slice.ensures.after in
    (c.requires.room, drop_at c.copy_from_slice.new.self (drop n (replicate g.row.N 0)) n (ap length copied) ∙ drop-replicate n g.row.N 0)
