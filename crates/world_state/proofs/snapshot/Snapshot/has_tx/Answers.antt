use Rattle.std.proofs.Common.{◌∙◌, ap, is_some}
use Rattle.wire.specs.Ids.{id_of}
use Rattle.ledger_model.specs.Chain.{history}
use Rattle.ledger_model.specs.Flags.{stands_in}
use Rattle.world_state.proofs.Placed.{stands_placed}
use Rattle.world_state.proofs.snapshot.Snapshot.has_tx.Goals as goal

pub returns : goal.returns
returns c =
    c.is_some.ensures ∙ ap is_some (c.block_in.ensures ∙ c.self.invariant.ids c.args.id.now)
    ∙ stands_placed (history c.self.inside.blocks) c.args.id.now
    ∙ ap (λ bs. stands_in id_of (history bs) c.args.id.now) c.self.view_is
