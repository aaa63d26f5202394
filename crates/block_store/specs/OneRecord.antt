-- Bytes that are one record.
use Rattle.std.specs.Prelude.{◌≡◌, ◌≢◌, ℕ, List, Option, Some, None}
use Rattle.fab_types.specs.Committed.{Committed}
use Rattle.block_store.specs.Record.{record_bytes, IsRecord}

-- the record of this number that they are, or that they are none
abbrev pub IsRecordIn : ℕ → List ℕ → Option Committed → Type 0
IsRecordIn n bytes None = (c : Committed) → IsRecord n c → record_bytes c ≢ bytes
IsRecordIn n bytes (Some c) = IsRecord n c × (record_bytes c ≡ bytes)
