use Rattle.std.proofs.Common.{sym, ap, ◌∙◌}
use Rattle.std.proofs.lemmas.Result.{IfOk-weaker}
use Rattle.world_state.specs.Kept.{Kept, block_of_id}
use Rattle.kept_state.proofs.Growing.{found_kept}
use Rattle.kept_state.proofs.state.State.ids_in_order.Goals as goal

pub returns-clause-ids : goal.returns-clause-ids
returns-clause-ids c =
    IfOk-weaker c.merged.result _ _ (λ ids found q.
    sym (found_kept ids.items q) ∙ found q ∙ found_kept c.self.inside.ids q ∙ ap (λ (k : Kept). block_of_id k.ids q) c.self.view_is) c.merged.ensures.found
