-- What appending a record leaves.
use Rattle.std.specs.Prelude.{◌≡◌, ℕ, ◌<◌, List, ◌++◌, Option, length, take, Result, Ok, Err}
use Rattle.std.specs.Io.KnownBytes.{Appends, Keeps}
use Rattle.block_store.specs.declared.appending.AppendFault.{AppendFault}
use Rattle.block_store.specs.declared.appending.AppendFault.TheVariants.{Memory, Device}

-- All of the record, or nothing for want of memory, or a beginning of the told length where a call failed.
abbrev pub Appended : {X : Type 0} → Result X AppendFault → List ℕ → List ℕ → List ℕ → ℕ → ℕ → Type 0
Appended (Ok x) bytes old new failures now = (new ≡ old ++ bytes) × (now ≡ failures)
Appended (Err Memory) bytes old new failures now = (new ≡ old) × (now ≡ failures)
Appended (Err (Device n)) bytes old new failures now = (n < length bytes) × (new ≡ old ++ take n bytes) × (failures < now)

-- So it is of what the device holds, where that is known.
abbrev pub AppendedTo : {X : Type 0} → Result X AppendFault → List ℕ → Option (List ℕ) → Option (List ℕ) → Type 0
AppendedTo (Ok x) bytes old new = Appends old new bytes
AppendedTo (Err Memory) bytes old new = Keeps old new
AppendedTo (Err (Device n)) bytes old new = Appends old new (take n bytes)

abbrev pub fault_number : AppendFault → ℕ
fault_number Memory = 9
fault_number (Device n) = 703
