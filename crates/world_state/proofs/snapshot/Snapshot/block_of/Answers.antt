use Rattle.std.proofs.Common.{◌∙◌, ap}
use Rattle.ledger_model.specs.Chain.{history}
use Rattle.world_state.specs.Ids.{block_of_id, placed_ids}
use Rattle.world_state.proofs.snapshot.Snapshot.block_of.Goals as goal

pub returns : goal.returns
returns c =
    c.block_in.ensures ∙ c.self.invariant.ids c.args.id.now
    ∙ ap (λ bs. block_of_id (placed_ids (history bs)) c.args.id.now) c.self.view_is
