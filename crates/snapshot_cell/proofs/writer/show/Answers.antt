use Rattle.std.proofs.Common.{ap, ◌∙◌}
use Rattle.snapshot_cell.specs.Knowing.{knowing}
use Rattle.snapshot_cell.proofs.Knowing.{turns, known_back}
use Rattle.snapshot_cell.proofs.Folds.{State, latest, each_way}
use Rattle.snapshot_cell.proofs.writer.show.Goals as goal

pub publish_as-requires : goal.publish_as-requires
publish_as-requires g c next is =
    let r = c.requires in turns _ _ c.args.inner.desk.shown.value next (ap (λ (s : State). s.1) (latest _ _ _ r.0 r.1 is r.2) ∙ ap knowing r.3)

pub returns-clause-shown : goal.returns-clause-shown
returns-clause-shown g c xs op is =
    each_way c.publish_as.result.1 _ _ _ _
    (λ _ p. let all = latest _ _ _ xs op p.0 is in (ap (λ (s : State). s.0) all, known_back _ _ (ap (λ (s : State). s.1) all))) (λ _ p. p.0)
    c.publish_as.ensures.values
