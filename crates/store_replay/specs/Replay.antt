-- What replaying a store gives: its blocks committed one after another, as far as they fit.
use Rattle.std.specs.Prelude.{◌≡◌, ◌≢◌, ℕ, Bool, true, false, ◌⊎◌, Option, Some, None, List, [], ◌∷◌, ◌++◌, ◌+◌, length, IfSome}
use Rattle.fab_types.specs.Committed.{Committed}
use Rattle.ledger_model.specs.Chain.{Chain}
use Rattle.ledger_model.specs.Judged.{BlockRule}
use Rattle.committer.specs.Fits.{Fits, IsRefused, blocks_of}
use Rattle.committer.specs.declared.refusal.CommitRefusal.{CommitRefusal}
use Rattle.committer.specs.declared.refusal.CommitRefusal.TheVariants.{Memory}
use Rattle.kept_state.specs.Keeping.{IsKept, chain_of}
use Rattle.ledger_setting.specs.Judging.{next_by}
use Rattle.block_store.specs.Loading.{Gives, StoreGives}
use Rattle.store_replay.specs.declared.replaying.Replayed.{Replayed}

-- a block does not fit, for this cause
abbrev pub IsUnfit : Chain → Committed → CommitRefusal → Type 0
IsUnfit chain c cause = (cause ≢ Memory) × IsRefused cause (blocks_of chain) c.block

-- whether the record has the rule's flags
abbrev pub HasTheFlags : BlockRule → Chain → Committed → Bool → Type 0
HasTheFlags rule chain c true = c.flags ≡ (next_by rule chain c.block).flags
HasTheFlags rule chain c false = c.flags ≢ (next_by rule chain c.block).flags

-- the number of a block that has other flags, or else what is found behind it
abbrev pub first_of : Bool → ℕ → Option ℕ → Option ℕ
first_of true number later = later
first_of false number later = Some number

-- of two, the one that was found earlier
abbrev pub earlier : Option ℕ → Option ℕ → Option ℕ
earlier None later = later
earlier (Some number) later = Some number

-- Behind `chain` the records' blocks are committed as far as they fit: `last` is the chain then, `differs` the number of the
-- first of those blocks for which the store has other flags, and `refused` why the next one does not fit, if there is one.
abbrev pub Replays : BlockRule → Chain → List Committed → Chain → Option ℕ → Option CommitRefusal → Type 0
Replays rule chain [] last differs refused = (last ≡ chain) × (differs ≡ None) × (refused ≡ None)
Replays rule chain (c ∷ cs) last differs refused =
    (Fits (blocks_of chain) c.block × ((is_same : Bool) × (later : Option ℕ) × HasTheFlags rule chain c is_same
    × (differs ≡ first_of is_same (length chain + 1) later)
    × Replays rule (chain ++ next_by rule chain c.block ∷ []) cs last later refused))
    ⊎ ((cause : CommitRefusal) × IsUnfit chain c cause × (refused ≡ Some cause) × (last ≡ chain) × (differs ≡ None))

-- the block of a record stands behind a chain, which is `last` then, with the flags of the rule; whether these are the record's
pub record IsPushed (rule : BlockRule) (chain : Chain) (c : Committed) (is_same : Bool) (last : Chain) : Type 0 where
  pub fits : Fits (blocks_of chain) c.block
  pub flags : HasTheFlags rule chain c is_same
  pub grown : last ≡ chain ++ next_by rule chain c.block ∷ []

-- behind what was read before, some bytes were read: the whole blocks that they are, committed, and their end
pub record IsReplayed (rule : BlockRule) (before now : List ℕ) (r : Replayed) : Type 0 where
  pub bytes : List ℕ
  pub records : List Committed
  pub read : now ≡ before ++ bytes
  pub gives : Gives bytes records r.end
  pub count : r.blocks ≡ length records
  pub kept : IsKept r.chain
  pub replays : Replays rule [] records (chain_of r.chain) r.differs r.refused

-- of a store with these bytes the whole blocks, committed, and the end; where the device failed, of a beginning of it
pub record IsReplayOf (rule : BlockRule) (bytes : List ℕ) (r : Replayed) : Type 0 where
  pub records : List Committed
  pub gives : StoreGives bytes records r.end
  pub count : r.blocks ≡ length records
  pub kept : IsKept r.chain
  pub replays : Replays rule [] records (chain_of r.chain) r.differs r.refused

-- so a store was replayed, which has the known bytes where they are known
abbrev pub ReplaysFrom : BlockRule → Option (List ℕ) → Replayed → Type 0
ReplaysFrom rule known r = (bytes : List ℕ) × IfSome known (λ held. bytes ≡ held) × IsReplayOf rule bytes r
