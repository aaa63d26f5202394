-- A store's blocks as they are committed again, of which none is held.
use Rattle.std.specs.Prelude.{◌≡◌, [], Option}
use Rattle.std.specs.Option.{MatchOption}
use denote.Param.Send.{IsSync}
use denote.RattleType.{RattleType}
use Rattle.ledger_model.specs.Chain.{Chain}
use Rattle.ledger_model.specs.Judged.{BlockRule}
use Rattle.kept_state.specs.Keeping.{IsKept, chain_of}
use Rattle.kept_state.specs.declared.chain.KeptChain.{KeptChain}
use Rattle.store_replay.specs.Lawful.{AreLawful, IsRecommitRefused}
use Rattle.store_replay.specs.declared.refusal.RecommitRefusal.{RecommitRefusal}

-- these blocks were committed again: all of them, and their chain is kept; or one of them is refused
abbrev pub IsRecommitted : BlockRule → KeptChain → Option RecommitRefusal → Chain → Type 0
IsRecommitted rule kept refused cs =
    MatchOption refused (IsKept kept × (chain_of kept ≡ cs) × AreLawful rule [] cs) (IsRecommitRefused rule cs)

-- so a sink took them, whose threads' handle, of this type, may be shared by threads
pub record HasTaken (T : RattleType) (rule : BlockRule) (kept : KeptChain) (refused : Option RecommitRefusal) (cs : Chain) : Type 0 where
  pub is_sync : IsSync T
  pub recommitted : IsRecommitted rule kept refused cs
