-- What stands at the front of some bytes.
use Rattle.std.specs.Prelude.{◌≡◌, ◌≢◌, ◌⊎◌, ℕ, ◌<◌, ◌≤◌, List, ◌++◌, length, drop, map, Option, Some, None}
use Rattle.sha2.specs.Sha256.{sha256}
use Rattle.fab_types.specs.FlagNumber.{flag_number}
use Rattle.fab_types.specs.declared.block.Block.{Block}
use Rattle.fab_types.specs.BlockSpelling.{block_bytes}
use Rattle.fab_types.specs.Committed.{Committed}
use Rattle.block_store.specs.Record.{record_bytes, IsBlockAt, IsRecord}
use Rattle.block_store.specs.Store.{AreFlags, Awaits, IsBeginning, IsDamaged}
use Rattle.block_store.specs.declared.front.Front.{Front}
use Rattle.block_store.specs.declared.front.Front.TheVariants.{Whole, Beginning, Damaged}

-- the record at the front, which takes so many bytes
pub record IsWhole (n : ℕ) (bytes : List ℕ) (c : Committed) (taken : ℕ) : Type 0 where
  pub is_record : IsRecord n c
  pub some : 0 < taken
  pub within : taken ≤ length bytes
  pub bytes_are : bytes ≡ record_bytes c ++ drop taken bytes

abbrev pub IsFront : ℕ → List ℕ → Front → Type 0
IsFront n bytes (Whole c taken) = IsWhole n bytes c taken
IsFront n bytes (Beginning needed) = IsBeginning n bytes × Awaits n bytes needed
IsFront n bytes Damaged = IsDamaged n bytes

-- the block n that the bytes spell, or that they spell none
abbrev pub Spells : ℕ → List ℕ → Option Block → Type 0
Spells n text None = (b : Block) → IsBlockAt n b → block_bytes b ≢ text
Spells n text (Some b) = IsBlockAt n b × (block_bytes b ≡ text)

-- the block with the flags that the numbers are, or that a number is none or the digest is another
abbrev pub Seals : Block → List ℕ → List ℕ → List ℕ → Option Committed → Type 0
Seals b before numbers digest None = (¬ AreFlags numbers) ⊎ (digest ≢ sha256 before)
Seals b before numbers digest (Some c) = (c.block ≡ b) × (map flag_number c.flags ≡ numbers) × (digest ≡ sha256 before) × (length c.flags ≡ length b.envelopes)
