-- The records of a store as it is opened.
use Rattle.std.specs.Prelude.{◌≡◌, ℕ, List, Option}
use denote.RattleType.{RattleType}
use Rattle.ledger_model.specs.Chain.{Chain}
use Rattle.ledger_model.specs.Judged.{BlockRule}
use Rattle.block_store.specs.Store.{AreRecords}
use Rattle.store_devices.specs.Places.{ends_of}
use Rattle.kept_state.specs.Keeping.{IsKept, chain_of}
use Rattle.kept_state.specs.declared.chain.KeptChain.{KeptChain}
use Rattle.store_replay.specs.Recommitting.{HasTaken, IsRecommitted}
use Rattle.store_replay.specs.declared.refusal.RecommitRefusal.{RecommitRefusal}

-- of records it is known where each ends
abbrev pub AreLaid : (places : List ℕ) → Chain → Type 0
AreLaid places cs = AreRecords 1 cs → places ≡ ends_of cs

-- these blocks were committed again, and it is known where the record of each ends
abbrev pub AreOpened : BlockRule → KeptChain → Option RecommitRefusal → (places : List ℕ) → Chain → Type 0
AreOpened rule chain refused places cs = IsRecommitted rule chain refused cs × AreLaid places cs

-- so a sink took them
abbrev pub HaveOpened : RattleType → BlockRule → KeptChain → Option RecommitRefusal → (places : List ℕ) → Chain → Type 0
HaveOpened T rule chain refused places cs = HasTaken T rule chain refused cs × AreLaid places cs

-- this is the chain of the records, and there each of them ends
pub record IsChainOf (chain : KeptChain) (places : List ℕ) (cs : Chain) : Type 0 where
  pub kept : IsKept chain
  pub blocks : chain_of chain ≡ cs
  pub ends : places ≡ ends_of cs
  pub records : AreRecords 1 cs
