-- The records of a store as their blocks are committed again.
use Rattle.std.specs.Prelude.{◌≡◌, ℕ, [], ◌-◌, ◌^◌, List, Option, length, min}
use denote.Param.Send.{IsSync}
use denote.RattleType.{RattleType}
use Rattle.fab_types.specs.Committed.{Committed}
use Rattle.ledger_model.specs.Judged.{BlockRule}
use Rattle.committer.specs.declared.refusal.CommitRefusal.{CommitRefusal}
use Rattle.kept_state.specs.Keeping.{IsKept, chain_of}
use Rattle.kept_state.specs.declared.chain.KeptChain.{KeptChain}
use Rattle.store_replay.specs.Replay.{Replays}

-- these records were taken and counted, and their blocks committed as far as they fit; the threads' handle, of this type, may be shared by threads
pub record HasReplayed (T : RattleType) (rule : BlockRule) (chain : KeptChain) (differs : Option ℕ) (refused : Option CommitRefusal) (blocks : ℕ)
    (cs : List Committed) : Type 0 where
  pub is_sync : IsSync T
  pub kept : IsKept chain
  pub count : blocks ≡ min (length cs) (2 ^ 64 - 1)
  pub replays : Replays rule [] cs (chain_of chain) differs refused
