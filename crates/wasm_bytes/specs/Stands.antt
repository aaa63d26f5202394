-- What stands at an offset of some bytes, and what a fault says of them.
use Rattle.std.specs.Prelude.{◌≡◌, ℕ, ◌+◌, ◌⊎◌, false, List, ◌++◌, length, drop, Result, Ok, Err}
use Rattle.std.specs.Str.{is_utf8}
use Rattle.wasm_bytes.specs.declared.fault.FaultKind.{FaultKind}
use Rattle.wasm_bytes.specs.declared.fault.FaultKind.TheVariants.{EndedEarly, BadNumber, NotUtf8}
use Rattle.wasm_bytes.specs.declared.fault.ByteFault.{ByteFault}
use Rattle.wasm_bytes.specs.Spelling.{IsU32, IsS32, IsS64}
use Rattle.wasm_bytes.specs.Faults.{InFront, Begins}
use Rattle.wasm_bytes.specs.Place.{Place, offset_of}

-- x is spelled from one offset up to another
abbrev pub Spans : {A : Type 0} → (A → List ℕ → Type 0) → A → List ℕ → (from to : ℕ) → Type 0
Spans Spells x bytes from to =
    (text : List ℕ) × (rest : List ℕ) × Spells x text × (drop from bytes ≡ text ++ rest)
    × (to ≡ from + length text)

-- no item is spelled in front, and none would be whatever came after the bytes
abbrev pub Never : {A : Type 0} → (A → List ℕ → Type 0) → List ℕ → Type 0
Never Spells bytes = (¬ InFront Spells bytes) × (¬ Begins Spells bytes)

-- a number (5.2.2) of some width is never spelled
abbrev pub NoNumber : List ℕ → Type 0
NoNumber bytes = Never IsU32 bytes ⊎ Never IsS32 bytes ⊎ Never IsS64 bytes

-- a length, and that many bytes that are not UTF-8 (5.2.4)
abbrev pub NoText : List ℕ → Type 0
NoText bytes =
    (size : List ℕ) × (name : List ℕ) × (rest : List ℕ) × IsU32 (length name) size
    × (bytes ≡ size ++ (name ++ rest)) × (is_utf8 name ≡ false)

-- what a fault at an offset says of the bytes, where those of the cursor end at `end`
abbrev pub Says : FaultKind → (offset end : ℕ) → List ℕ → Type 0
Says EndedEarly offset end bytes = offset ≡ end
Says BadNumber offset end bytes = NoNumber (drop offset bytes)
Says NotUtf8 offset end bytes = NoText (drop offset bytes)

-- What a reader passes is its item, seen by view, and what its fault says is true.
abbrev pub Tells : {X Y : Type 0} → (X → Y) → (Y → List ℕ → Type 0)
    → Result X ByteFault → Place → Place → Type 0
Tells view Spells (Ok x) old new =
    Spans Spells (view x) old.whole (offset_of old) (offset_of new) × (new.whole ≡ old.whole)
Tells view Spells (Err e) old new = Says e.kind e.offset old.end old.whole
