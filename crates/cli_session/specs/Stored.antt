-- The store that a run writes.
use Rattle.std.specs.Prelude.{◌≡◌, ◌≢◌, ◌<◌, ◌⊎◌, ℕ, Bool, true, List, [], Option, Some, IfSome, Result, Ok, Err, length, string_bytes}
use Rattle.std.specs.List.{flat_map}
use Rattle.fab_types.specs.Committed.{Committed}
use Rattle.block_store.specs.Record.{record_bytes}
use Rattle.block_store.specs.Store.{Loads}
use Rattle.block_store.specs.Loading.{StoreGives}
use Rattle.block_store.specs.declared.end.End.{End}
use Rattle.block_store.specs.declared.end.End.TheVariants.{Clean, Torn, Damaged, DeviceFailed}
use Rattle.ledger_model.specs.Chain.{Chain}
use Rattle.cli_lines.specs.Places.{FilesHeld, IsFileOf}
use Rattle.cli_lines.specs.Told.{IsBrokenOff}
use Rattle.cli_lines.specs.declared.failure.Failure.{Failure}
use Rattle.cli_lines.specs.declared.failure.Failure.TheVariants as failure
use Rattle.cli_lines.specs.declared.files.Target.{Target}
use Rattle.cli_lines.specs.declared.files.Target.TheVariants.{File, NewFile, Device}

-- the records of a chain, one behind the other
abbrev pub store_bytes : Chain → List ℕ
store_bytes chain = flat_map record_bytes chain

-- the file of this name has the records of a chain, where it is known what is written
abbrev pub Holds : (known : Bool) → (bytes : FilesHeld) → (name : List ℕ) → Chain → Type 0
Holds known bytes name chain = known ≡ true → bytes name ≡ Some (store_bytes chain)

-- the store that was asked for, if one was, has the records of the first peer's chain
abbrev pub HoldsAsked : (known : Bool) → (bytes : FilesHeld) → (asked : Option (List ℕ)) → Option Chain → Type 0
HoldsAsked known bytes asked chain = IfSome asked (λ name. IfSome chain (Holds known bytes name))

-- the same of the place of a store: of each name that leads there
abbrev pub HoldsPlaced : (known : Bool) → (bytes : FilesHeld) → (place : Option Target) → Option Chain → Type 0
HoldsPlaced known bytes place chain =
    IfSome place (λ target. IfSome chain (λ c. (name : List ℕ) → IsFileOf name target → Holds known bytes name c))

-- ---- what stands where a store is to be written

-- bytes with which no store begins: there are some, and the first record is not whole
abbrev pub BeginsNoStore : List ℕ → Type 0
BeginsNoStore bytes = (end : End) × (end ≢ Clean) × Loads 1 bytes [] end

-- so many whole records were found, and what stands behind them
abbrev pub HasFound : List ℕ → (count : ℕ) → End → Type 0
HasFound bytes count end = (cs : List Committed) × (count ≡ length cs) × StoreGives bytes cs end

-- what was found is a store: no byte, or a whole record
abbrev pub IsStoreBy : (count : ℕ) → End → Type 0
IsStoreBy count Clean = Unit {0}
IsStoreBy count Torn = 0 < count
IsStoreBy count (Damaged n) = 0 < count
IsStoreBy count DeviceFailed = ⊥

-- the file that is there, if one is, begins as a store does
abbrev pub HasStore : (bytes : FilesHeld) → (place : Target) → Type 0
HasStore bytes (File path) = IfSome (bytes (string_bytes path)) (λ held. ¬ BeginsNoStore held)
HasStore bytes (NewFile path) = Unit {0}
HasStore bytes (Device path) = Unit {0}

-- so it is where the file of this name holds bytes with which no store begins
abbrev pub WhereNoStore : (known : Bool) → (bytes : FilesHeld) → (name : List ℕ) → Type 0 → Type 0
WhereNoStore known bytes name P = known ≡ true → IfSome (bytes name) (λ held. BeginsNoStore held → P)

-- no line was done, for want of a seed, or for a cause that may come at any call, as of a file
abbrev pub IsNotRun : {A : Type 0} → Result A Failure → Type 0
IsNotRun (Ok x) = ⊥
IsNotRun (Err f) = IsBrokenOff f ⊎ (f ≡ failure.NoSeed)
