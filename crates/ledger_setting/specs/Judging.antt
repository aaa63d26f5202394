-- What a block is judged to be behind a chain, and how it stands there.
use Rattle.std.specs.Prelude.{◌≡◌, ◌+◌, length}
use Rattle.fab_types.specs.declared.block.Block.{Block}
use Rattle.ledger_model.specs.Chain.{Chain, Committed, history}
use Rattle.ledger_model.specs.Judged.{BlockRule, judge}
use Rattle.world_state.specs.Judging.{IsOf}
use Rattle.world_state.specs.declared.judged.Judged.{Judged}
use Rattle.committer.specs.Fits.{Fits, blocks_of}

-- the block that comes next in a chain, its transactions with the flags of the rule
abbrev pub next_by : BlockRule → Chain → Block → Committed
next_by rule chain b = record { block = b; flags = judge (rule (history chain)) (history chain) (length chain + 1) 0 b.envelopes }

-- the block fits behind the chain, and was judged there: its transactions have these flags by the rule, and these ids
pub record IsJudged (rule : BlockRule) (chain : Chain) (block : Block) (judged : Judged) : Type 0 where
  pub fits : Fits (blocks_of chain) block
  pub flags : judged.flags.items ≡ (next_by rule chain block).flags
  pub of : IsOf block judged
