-- What goes with a block that joins a chain.
use Rattle.std.specs.Prelude.{◌≡◌, length}
use Rattle.fab_types.specs.declared.block.Block.{Block}
use Rattle.ledger_model.specs.Chain.{Committed}
use Rattle.world_state.specs.Ids.{ids_of}
use Rattle.world_state.specs.declared.judged.Judged.{Judged}

-- there is a flag for each transaction of the block, and these are their ids
pub record IsOf (block : Block) (judged : Judged) : Type 0 where
  pub one_each : length judged.flags.items ≡ length block.envelopes
  pub ids : judged.ids.items ≡ ids_of block.envelopes

-- the block with these flags, as a chain has it
abbrev pub flagged : Block → Judged → Committed
flagged block judged = record { block = block; flags = judged.flags.items }
