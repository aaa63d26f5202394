-- Stored blocks that are a chain with the flags of the rule, and the first block at which others are not.
use Rattle.std.specs.Prelude.{◌≡◌, true, false, List, [], ◌∷◌, ◌++◌, ◌+◌, length}
use Rattle.fab_types.specs.Committed.{Committed}
use Rattle.ledger_model.specs.Chain.{Chain}
use Rattle.ledger_model.specs.Judged.{BlockRule}
use Rattle.committer.specs.Fits.{Fits, IsNext, blocks_of}
use Rattle.store_replay.specs.Replay.{HasTheFlags, IsUnfit}
use Rattle.store_replay.specs.declared.refusal.RecommitRefusal.{RecommitRefusal}
use Rattle.store_replay.specs.declared.refusal.RecommitRefusal.TheVariants.{Memory, Unfit, Flags}

-- behind `chain` each of these blocks is the next one, and has the rule's flags
abbrev pub AreLawful : BlockRule → Chain → List Committed → Type 0
AreLawful rule chain [] = Unit {0}
AreLawful rule chain (c ∷ cs) =
    Fits (blocks_of chain) c.block × HasTheFlags rule chain c true × AreLawful rule (chain ++ c ∷ []) cs

-- what a refusal says of one record behind a chain. Want of memory comes at a block that is the next by its number and the hash that it names
abbrev pub IsNextRefused : BlockRule → Chain → Committed → RecommitRefusal → Type 0
IsNextRefused rule chain c Memory = IsNext (blocks_of chain) c.block
IsNextRefused rule chain c (Unfit number cause) = (number ≡ length chain + 1) × IsUnfit chain c cause
IsNextRefused rule chain c (Flags number) = (number ≡ length chain + 1) × Fits (blocks_of chain) c.block × HasTheFlags rule chain c false

-- records were put behind `chain` in turn, up to one that is refused: `last` is the chain with those before it, which are lawful, and nothing else
pub record StopsAt (rule : BlockRule) (chain : Chain) (records : List Committed) (last : Chain) (refusal : RecommitRefusal) : Type 0 where
  pub before : List Committed
  pub first : Committed
  pub after : List Committed
  pub all : records ≡ before ++ first ∷ after
  pub lawful : AreLawful rule chain before
  pub put : last ≡ chain ++ before
  pub why : IsNextRefused rule last first refusal

-- what a refusal says of stored blocks: that of one of them, behind those before it, which are lawful
pub record IsRecommitRefused (rule : BlockRule) (records : List Committed) (refusal : RecommitRefusal) : Type 0 where
  pub last : Chain
  pub stops : StopsAt rule [] records last refusal
