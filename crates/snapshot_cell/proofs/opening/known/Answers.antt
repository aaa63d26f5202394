use Rattle.std.proofs.Common.{ap, ◌∙◌, fold, List}
use Rattle.std.specs.Arc.{arc_value}
use Rattle.snapshot_cell.specs.Knowing.{knowing}
use Rattle.snapshot_cell.specs.declared.kept.Next.{Next}
use Rattle.snapshot_cell.proofs.Knowing.{turns}
use Rattle.snapshot_cell.proofs.Folds.{State, applied}
use Rattle.snapshot_cell.proofs.opening.known.Goals as goal

-- nothing is pending
pub publish_as-inner-requires : goal.publish_as-inner-requires
publish_as-inner-requires g c next is =
    let shown = c.in_ok-inner.inner.desk.shown.value in
    let s : State = (arc_value shown.snapshot, knowing shown.front.seen.book) in
    turns _ _ shown next (ap (λ (t : State). t.1) (is ∙ ap (λ (l : List Next). fold applied s l) c.in_ok-inner.ensures.1))
