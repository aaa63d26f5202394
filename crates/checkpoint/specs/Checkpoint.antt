-- The bytes of a checkpoint: what is kept of a chain behind its last block.
use Rattle.std.specs.Prelude.{◌≡◌, ℕ, List, ◌++◌, Option, codes, length, map}
use Rattle.std.specs.FinMap.{entries}
use Rattle.std.specs.Int.{Width, w32, w64, to_be_bytes}
use Rattle.std.specs.Io.KnownBytes.{Appends}
use Rattle.std.specs.List.{flat_map, zip}
use Rattle.sha2.specs.Sha256.{sha256}
use Rattle.fab_types.specs.Spelling.{short_bytes, long_bytes, membership_bytes, version_bytes}
use Rattle.fab_types.specs.declared.membership.Membership.{Membership}
use Rattle.ledger_model.specs.Chain.{Bytes, Chain, Version, history}
use Rattle.ledger_model.specs.State.{state}
use Rattle.id_runs.specs.Entries.{Ascends}
use Rattle.world_state.specs.Kept.{Kept, IsKeptOf, amendments_of, block_of_id, hashes_of, placed_ids, state_in}
use Rattle.block_store.specs.Record.{record_bytes}
use Rattle.checkpoint.specs.Within.{IsKeptWithin}

-- "ckpt", and the number of this form
abbrev pub form_bytes : Bytes
form_bytes = codes "ckpt" ++ to_be_bytes w32 1

-- how many there are, and each
abbrev pub counted_bytes : {A : Type 0} → Width → (A → Bytes) → List A → Bytes
counted_bytes width spelling xs = to_be_bytes width (length xs) ++ flat_map spelling xs

-- the number of a block, and the membership behind its length
abbrev pub amendment_bytes : ℕ × Membership → Bytes
amendment_bytes a = to_be_bytes w32 a.0 ++ long_bytes (membership_bytes a.1)

-- a key, its value and its version, as payloads have them
abbrev pub kept_entry_bytes : Bytes × (Bytes × Version) → Bytes
kept_entry_bytes e = short_bytes e.0 ++ long_bytes e.1.0 ++ version_bytes e.1.1

-- an id, and the number of the block where it stands first
abbrev pub placed_id_bytes : Bytes × ℕ → Bytes
placed_id_bytes e = e.0 ++ to_be_bytes w32 e.1

-- the hash of a block's header, and the length of its record
abbrev pub sized_hash_bytes : Bytes × ℕ → Bytes
sized_hash_bytes b = b.0 ++ to_be_bytes w32 b.1

-- the form, the digest of the genesis file, the height, and the hash that the next header names
abbrev pub head_bytes : (genesis : Bytes) → Kept → Bytes
head_bytes genesis kept = form_bytes ++ genesis ++ to_be_bytes w32 kept.height ++ kept.link

-- all before the digest, where the records of the blocks have these lengths
abbrev pub checkpoint_body : (genesis : Bytes) → Kept → (sizes : List ℕ) → Bytes
checkpoint_body genesis kept sizes =
    head_bytes genesis kept
    ++ counted_bytes w32 sized_hash_bytes (zip kept.hashes sizes)
    ++ counted_bytes w32 amendment_bytes kept.amended
    ++ counted_bytes w64 kept_entry_bytes kept.entries
    ++ counted_bytes w64 placed_id_bytes kept.ids

abbrev pub checkpoint_bytes : (genesis : Bytes) → Kept → (sizes : List ℕ) → Bytes
checkpoint_bytes genesis kept sizes = let body = checkpoint_body genesis kept sizes in body ++ sha256 body

-- the lengths of the records of these blocks
abbrev pub sizes_of : Chain → List ℕ
sizes_of chain = map (λ c. length (record_bytes c)) chain

-- what is kept of a chain, with all hashes, where entries and ids ascend, within the limits: each chain is kept in one such way
pub record IsKeptInOrder (kept : Kept) (chain : Chain) : Type 0 where
  pub is_kept : IsKeptOf kept chain
  pub hashes : kept.hashes ≡ hashes_of chain
  pub entries : kept.entries ≡ entries (state_in kept)
  pub ids : Ascends kept.ids
  pub within : IsKeptWithin kept

-- bytes that spell what is kept of a chain, behind a genesis file of this SHA-256
abbrev pub IsCheckpointOf : (genesis bytes : Bytes) → Chain → Type 0
IsCheckpointOf genesis bytes chain =
    (kept : Kept) × IsKeptInOrder kept chain × (bytes ≡ checkpoint_bytes genesis kept (sizes_of chain))

-- a checkpoint of the chain ends in this digest, which is the SHA-256 of all before it
abbrev pub IsDigestOf : (genesis : Bytes) → Chain → (digest : Bytes) → Type 0
IsDigestOf genesis chain digest = (body : Bytes) × IsCheckpointOf genesis (body ++ digest) chain × (digest ≡ sha256 body)

-- Behind what a writer had stands a checkpoint of the chain. It ends in this digest, which is the SHA-256 of all before it.
abbrev pub Writes : (genesis : Bytes) → Chain → (digest : Bytes) → (old now : Option Bytes) → Type 0
Writes genesis chain digest old now =
    (body : Bytes) × IsCheckpointOf genesis (body ++ digest) chain × (digest ≡ sha256 body) × Appends old now (body ++ digest)

-- of two chains the same is kept
pub record AreKeptAlike (chain other : Chain) : Type 0 where
  pub state : state (history chain) ≡ state (history other)
  pub ids : (sought : Bytes) → block_of_id (placed_ids (history chain)) sought ≡ block_of_id (placed_ids (history other)) sought
  pub hashes : hashes_of chain ≡ hashes_of other
  pub amended : amendments_of (history chain) ≡ amendments_of (history other)
