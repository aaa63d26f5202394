use Rattle.std.proofs.Common.{◌≡◌, drop}
use Rattle.ledger_model.specs.Chain.{Bytes}
use Rattle.world_state.specs.Ids.{block_behind}
use Rattle.world_state.proofs.index.index_all.Given as goal

abbrev pub invariant-loop-id : goal.invariant-loop-id
invariant-loop-id l =
    (sought : Bytes) → block_behind l.known.entries l.block (drop l.id-index l.ids) sought ≡ block_behind l.fn.known.entries l.block l.ids sought
