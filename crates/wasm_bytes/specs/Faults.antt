-- Why no item stands in front of some bytes.
use Rattle.std.specs.Prelude.{◌≡◌, ℕ, ◌/◌, ◌^◌, List, [], ◌∷◌, ◌++◌, length, Option, Some, None, nat_lt, if◌then◌else◌}
use Rattle.wasm_bytes.specs.declared.fault.FaultKind.{FaultKind}
use Rattle.wasm_bytes.specs.declared.fault.FaultKind.TheVariants.{EndedEarly, BadNumber, NotUtf8}
use Rattle.wasm_bytes.specs.declared.fault.ByteFault.{ByteFault}
use Rattle.wasm_bytes.specs.Place.{Place, offset_of}
use Rattle.wasm_bytes.specs.Reading.{u32_at}

-- a beginning of the bytes spells an item
abbrev pub InFront : {A : Type 0} → (A → List ℕ → Type 0) → List ℕ → Type 0
InFront {A} Spells bytes = (x : A) × (text rest : List ℕ) × Spells x text × (bytes ≡ text ++ rest)

-- the bytes and some more spell an item
abbrev pub Begins : {A : Type 0} → (A → List ℕ → Type 0) → List ℕ → Type 0
Begins {A} Spells bytes = (x : A) × (more : List ℕ) × Spells x (bytes ++ more)

-- Where no number stands: the bytes ended before its last one, or that byte is too large or one byte too late.
unfoldable pub unsigned_fault : ℕ → List ℕ → FaultKind
unsigned_fault bound [] = EndedEarly
unsigned_fault bound (b ∷ rest) = if nat_lt b 128 then BadNumber else if nat_lt 128 bound then unsigned_fault (bound / 128) rest else BadNumber

unfoldable pub signed_fault : ℕ → List ℕ → FaultKind
signed_fault half [] = EndedEarly
signed_fault half (b ∷ rest) = if nat_lt b 128 then BadNumber else if nat_lt 64 half then signed_fault (half / 128) rest else BadNumber

abbrev pub u32_fault : List ℕ → FaultKind
u32_fault bytes = unsigned_fault (2 ^ 32) bytes

abbrev pub s32_fault : List ℕ → FaultKind
s32_fault bytes = signed_fault (2 ^ 31) bytes

abbrev pub s64_fault : List ℕ → FaultKind
s64_fault bytes = signed_fault (2 ^ 63) bytes

-- Where no name stands: its length is refused, or the bytes end inside it, or it is not UTF-8.
abbrev pub content_fault : List ℕ → Option (ℕ × List ℕ) → FaultKind
content_fault bytes None = u32_fault bytes
content_fault bytes (Some n) = if nat_lt (length n.1) n.0 then EndedEarly else NotUtf8

unfoldable pub name_fault : List ℕ → FaultKind
name_fault bytes = content_fault bytes (u32_at bytes)

-- the offset of a fault: of the end where the bytes ended early, and else of the item's first byte
abbrev pub fault_offset : Place → FaultKind → ℕ
fault_offset place EndedEarly = place.end
fault_offset place BadNumber = offset_of place
fault_offset place NotUtf8 = offset_of place

abbrev pub fault_at : Place → FaultKind → ByteFault
fault_at place kind = record { kind = kind; offset = fault_offset place kind }
