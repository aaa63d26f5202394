-- What loading a store gives.
use Rattle.std.specs.Prelude.{◌≡◌, ℕ, ◌<◌, ◌⊎◌, List, [], ◌++◌, length, Option, IfSome}
use Rattle.std.specs.List.{flat_map}
use Rattle.fab_types.specs.Committed.{Committed}
use Rattle.block_store.specs.Record.{record_bytes}
use Rattle.block_store.specs.Store.{Loads}
use Rattle.block_store.specs.declared.end.End.{End}
use Rattle.block_store.specs.declared.end.End.TheVariants.{Clean, Torn, Damaged, DeviceFailed}

-- of the bytes that were read: their records and end, or the whole records before the device failed
abbrev pub Gives : List ℕ → List Committed → End → Type 0
Gives bytes cs DeviceFailed = Loads 1 bytes cs Clean ⊎ Loads 1 bytes cs Torn
Gives bytes cs Clean = Loads 1 bytes cs Clean
Gives bytes cs Torn = Loads 1 bytes cs Torn
Gives bytes cs (Damaged n) = Loads 1 bytes cs (Damaged n)

-- behind what it had read before, a load read some bytes, and gives what they are
pub record IsLoaded (before now : List ℕ) (cs : List Committed) (end : End) : Type 0 where
  pub bytes : List ℕ
  pub read : now ≡ before ++ bytes
  pub gives : Gives bytes cs end

-- of a store with these bytes: its records and end, or the whole records of the beginning that was read before the device failed
abbrev pub StoreGives : List ℕ → List Committed → End → Type 0
StoreGives bytes cs DeviceFailed = (read rest : List ℕ) × (bytes ≡ read ++ rest) × Gives read cs DeviceFailed
StoreGives bytes cs Clean = Gives bytes cs Clean
StoreGives bytes cs Torn = Gives bytes cs Torn
StoreGives bytes cs (Damaged n) = Gives bytes cs (Damaged n)

-- the device failed in the call exactly where the end says so
abbrev pub IsTold : End → ℕ → ℕ → Type 0
IsTold DeviceFailed failures now = failures < now
IsTold Clean failures now = now ≡ failures
IsTold Torn failures now = now ≡ failures
IsTold (Damaged n) failures now = now ≡ failures

-- without damage all was read
abbrev pub ReadsAll : End → Type 0 → Type 0
ReadsAll Clean AtEnd = AtEnd
ReadsAll Torn AtEnd = AtEnd
ReadsAll (Damaged n) AtEnd = Unit {0}
ReadsAll DeviceFailed AtEnd = Unit {0}

-- Behind what it had read before, a load gives these of a store, which has the known bytes where they are known. Without damage all of it was read
pub record LoadsFrom (before now : List ℕ) (known : Option (List ℕ)) (cs : List Committed) (end : End) : Type 0 where
  pub bytes : List ℕ
  pub rest : List ℕ
  pub held : IfSome known (λ held. bytes ≡ held)
  pub read : before ++ bytes ≡ now ++ rest
  pub all : ReadsAll end (rest ≡ [])
  pub gives : StoreGives bytes cs end

-- behind what was read before come whole records, and then so many bytes
abbrev pub IsBehind : (before now : List ℕ) → List Committed → ℕ → Type 0
IsBehind before now cs held = (part : List ℕ) × (now ≡ before ++ flat_map record_bytes cs ++ part) × (length part ≡ held)

-- so many bytes were read of a record that is not whole; of a damaged one none is held
abbrev pub Holds : End → (before now : List ℕ) → List Committed → ℕ → Type 0
Holds Clean before now cs held = (held ≡ 0) × IsBehind before now cs held
Holds Torn before now cs held = IsBehind before now cs held
Holds (Damaged n) before now cs held = held ≡ 0
Holds DeviceFailed before now cs held = IsBehind before now cs held
