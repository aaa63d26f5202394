-- What a replay does with a block.
use Rattle.std.specs.Prelude.{◌≡◌, Bool, Result, OnOk, OnErr, List, [], ◌∷◌, ◌++◌}
use Rattle.fab_types.specs.declared.block.Block.{Block}
use Rattle.fab_types.specs.declared.edition.Edition.{Edition}
use Rattle.ledger_model.specs.Chain.{Chain, Committed, history}
use Rattle.ledger_model.specs.Flags.{flags_told}
use Rattle.wire.specs.Ids.{id_of}
use Rattle.committer.specs.declared.refusal.CommitRefusal.{CommitRefusal}

-- a block with its flags at the end of a chain
abbrev pub next_committed : Edition → Chain → Block → List Bool → Committed
next_committed edition chain block endorsed = record {
  block = block;
  flags = flags_told edition id_of (history chain) (history chain) block.header.number 0 block.envelopes endorsed;
}

-- the chain has the block at its end where it was taken, and is as it was where it was refused
abbrev pub Pushes : {A : Type 0} → Edition → Chain → Block → List Bool → Result A CommitRefusal → Chain → Type 0
Pushes edition old block endorsed result new =
    OnOk result (new ≡ old ++ next_committed edition old block endorsed ∷ []) × OnErr result (new ≡ old)
