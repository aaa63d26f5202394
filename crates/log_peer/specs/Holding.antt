-- What the file of a store holds, where that is known.
use Rattle.std.specs.Prelude.{◌≡◌, ℕ, Bool, true, List, ◌++◌, Option, Some, IfSome}
use Rattle.std.specs.List.{flat_map}
use Rattle.std.specs.Io.KnownBytes.{Appends}
use Rattle.ledger_model.specs.Chain.{Chain}
use Rattle.block_store.specs.Record.{record_bytes}
use Rattle.log_peer.specs.Storing.{AreRecordsOf}
use Rattle.log_peer.specs.declared.refusal.StoreRefusal.{StoreRefusal}
use Rattle.log_peer.specs.declared.refusal.StoreRefusal.TheVariants.{Memory, File, Damaged, Stored, Received}

-- the records of a chain and nothing else
abbrev pub HoldsRecords : Option (List ℕ) → Chain → Type 0
HoldsRecords known chain = known ≡ Some (flat_map record_bytes chain)

-- so it is where it is known what each file of the type holds
abbrev pub HoldsIfKnown : (is_known : Bool) → Option (List ℕ) → Chain → Type 0
HoldsIfKnown is_known known chain = is_known ≡ true → HoldsRecords known chain

-- the whole records that it held stand at its front
abbrev pub KeepsRecords : (before after : Option (List ℕ)) → Type 0
KeepsRecords before after =
    IfSome before (λ held. (chain : Chain) → AreRecordsOf held chain → (more : List ℕ) × (after ≡ Some (flat_map record_bytes chain ++ more)))

-- all that it held does
abbrev pub Grows : (before after : Option (List ℕ)) → Type 0
Grows before after = (more : List ℕ) × Appends before after more

-- a file of a store that is not opened is what it was, unless a call of it failed
abbrev pub IsUntouched : {D : Type 0} → StoreRefusal → (before after : D) → Type 0
IsUntouched File before after = Unit {0}
IsUntouched Memory before after = after ≡ before
IsUntouched (Damaged number) before after = after ≡ before
IsUntouched (Stored refusal) before after = after ≡ before
IsUntouched (Received refusal) before after = after ≡ before
