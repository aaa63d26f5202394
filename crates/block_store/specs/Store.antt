-- The records of a store, and how it ends.
use Rattle.std.specs.Prelude.{◌≡◌, ◌≢◌, ℕ, suc, ◌^◌, ◌+◌, ◌<◌, ◌≤◌, ◌⊎◌, List, [], ◌∷◌, ◌++◌, length}
use Rattle.std.specs.List.{All}
use Rattle.std.specs.Int.{w32, to_be_bytes}
use Rattle.sha2.specs.Sha256.{sha256}
use Rattle.fab_types.specs.Committed.{Committed}
use Rattle.fab_types.specs.declared.block.Block.{Block}
use Rattle.fab_types.specs.BlockSpelling.{block_bytes}
use Rattle.block_store.specs.Record.{framed_bytes, record_bytes, IsBlockAt, IsRecord}
use Rattle.block_store.specs.declared.end.End.{End}
use Rattle.block_store.specs.declared.end.End.TheVariants.{Clean, Torn, Damaged, DeviceFailed}

-- the lengths that blocks have
abbrev pub IsLength : ℕ → Type 0
IsLength n = (103 ≤ n) × (n ≤ 526406)

-- ---- a record that may still be whole: so far no damage shows

-- less than a length
abbrev pub EndsInLength : List ℕ → Type 0
EndsInLength bytes = length bytes < 4

-- fewer bytes behind the length than it says
pub record EndsInBlock (bytes : List ℕ) : Type 0 where
  pub len : ℕ
  pub part : List ℕ
  pub is_length : IsLength len
  pub bytes_are : bytes ≡ to_be_bytes w32 len ++ part
  pub short : length part < len

-- block n is whole, with fewer bytes behind it than its flags and a digest have
pub record EndsBehindBlock (n : ℕ) (bytes : List ℕ) : Type 0 where
  pub block : Block
  pub part : List ℕ
  pub is_block : IsBlockAt n block
  pub bytes_are : bytes ≡ framed_bytes block ++ part
  pub short : length part < length block.envelopes + 32

abbrev pub IsBeginning : ℕ → List ℕ → Type 0
IsBeginning n bytes = EndsInLength bytes ⊎ (EndsInBlock bytes ⊎ EndsBehindBlock n bytes)

-- bytes that go on from these are such a beginning while there are fewer than needed
abbrev pub Awaits : ℕ → List ℕ → ℕ → Type 0
Awaits n bytes needed = (more : List ℕ) → length (bytes ++ more) < needed → IsBeginning n (bytes ++ more)

-- ---- damage

-- a length that no block has
pub record HasNoLength (bytes : List ℕ) : Type 0 where
  pub len : ℕ
  pub rest : List ℕ
  pub fits : len < 2 ^ 32
  pub no_length : ¬ IsLength len
  pub bytes_are : bytes ≡ to_be_bytes w32 len ++ rest

-- all the bytes that the length says are there, and they are not block n
pub record HasNoBlock (n : ℕ) (bytes : List ℕ) : Type 0 where
  pub text : List ℕ
  pub rest : List ℕ
  pub is_length : IsLength (length text)
  pub no_block : (b : Block) → IsBlockAt n b → block_bytes b ≢ text
  pub bytes_are : bytes ≡ to_be_bytes w32 (length text) ++ text ++ rest

abbrev pub AreFlags : List ℕ → Type 0
AreFlags numbers = All (λ m. m ≤ 4) numbers

-- all of the record is there, and a flag is above 4 or the digest is another
pub record HasBadEnd (n : ℕ) (bytes : List ℕ) : Type 0 where
  pub block : Block
  pub numbers : List ℕ
  pub digest : List ℕ
  pub rest : List ℕ
  pub is_block : IsBlockAt n block
  pub one_each : length numbers ≡ length block.envelopes
  pub digest_len : length digest ≡ 32
  pub bad : (¬ AreFlags numbers) ⊎ (digest ≢ sha256 (framed_bytes block ++ numbers))
  pub bytes_are : bytes ≡ framed_bytes block ++ numbers ++ digest ++ rest

abbrev pub IsDamaged : ℕ → List ℕ → Type 0
IsDamaged n bytes = HasNoLength bytes ⊎ (HasNoBlock n bytes ⊎ HasBadEnd n bytes)

-- ---- all of it

-- at record n nothing is whole any more
abbrev pub Ends : ℕ → List ℕ → End → Type 0
Ends n bytes Clean = bytes ≡ []
Ends n bytes Torn = (bytes ≢ []) × IsBeginning n bytes
Ends n bytes (Damaged m) = (m ≡ n) × IsDamaged n bytes
Ends n bytes DeviceFailed = ⊥

-- from record n on, the whole records of a store with these bytes, and its end
abbrev pub Loads : ℕ → List ℕ → List Committed → End → Type 0
Loads n bytes [] end = Ends n bytes end
Loads n bytes (c ∷ cs) end = (rest : List ℕ) × IsRecord n c × (bytes ≡ record_bytes c ++ rest) × Loads (suc n) rest cs end

-- the records from number n on
abbrev pub AreRecords : ℕ → List Committed → Type 0
AreRecords n [] = Unit {0}
AreRecords n (c ∷ cs) = IsRecord n c × AreRecords (suc n) cs
