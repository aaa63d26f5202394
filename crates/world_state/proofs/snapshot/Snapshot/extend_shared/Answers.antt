use Rattle.std.proofs.Common.{◌∙◌, ap}
use Rattle.fab_types.specs.declared.block.Block.{Block}
use Rattle.ledger_model.specs.Chain.{Committed}
use Rattle.world_state.specs.Ids.{ids_of}
use Rattle.world_state.proofs.snapshot.Snapshot.extend_shared.Goals as goal

pub put-requires-clause-ids : goal.put-requires-clause-ids
put-requires-clause-ids c =
    c.deref-2.ensures.value
    ∙ c.in_ok-ids.ensures
    ∙ ap (λ (b : Block). ids_of b.envelopes) (c.block.ensures ∙ ap (λ (b : Committed). b.block) c.deref.ensures)
