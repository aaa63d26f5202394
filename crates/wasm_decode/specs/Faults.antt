-- What a fault says of the bytes: what stands, or does not, at its offset (Core 1.0, chapter 5).
use Rattle.std.specs.Prelude.{◌≡◌, ◌≢◌, ℕ, ◌+◌, ◌<◌, ◌≤◌, ◌⊎◌, max, List, [], ◌∷◌, length, drop, slice_get, Some, None, MatchOption, Result, Ok, Err}
use Rattle.wasm_profile.specs.declared.profile.Profile.{Profile}
use Rattle.wasm_bytes.specs.Spelling.{IsU32}
use Rattle.wasm_bytes.specs.Place.{Place, offset_of}
use Rattle.wasm_bytes.specs.Stands.{Spans, NoNumber, NoText}
use Rattle.wasm_decode.specs.declared.fault.DecodeFault.{DecodeFault}
use Rattle.wasm_decode.specs.declared.fault.DecodeFault.TheVariants.{Memory, Malformed}
use Rattle.wasm_decode.specs.declared.fault.FaultKind.{FaultKind}
use Rattle.wasm_decode.specs.declared.fault.FaultKind.TheVariants.{Magic, Version, EndedEarly, BadNumber, SectionOrder, Length, Opcode, TypeByte, NotUtf8}
use Rattle.wasm_decode.specs.declared.fault.FaultKind.TheVariants.{Float, Limit, CountsDiffer, StartSection}
use Rattle.grammar.specs.Table.{row_at}
use Rattle.wasm_decode.specs.Opcodes.{opcodes}
use Rattle.wasm_decode.specs.SectionReading.{section_rows}
use Rattle.wasm_decode.specs.ModuleReading.{header_bytes}

-- a byte of which P holds stands at an offset
abbrev pub HasByte : (ℕ → Type 0) → List ℕ → ℕ → Type 0
HasByte P bytes offset = MatchOption (slice_get bytes offset) ⊥ P

-- a number of which P holds, given the offset behind it, stands at an offset
abbrev pub HasNumber : (ℕ → ℕ → Type 0) → List ℕ → ℕ → Type 0
HasNumber P bytes offset = (n : ℕ) × (behind : ℕ) × Spans IsU32 n bytes offset behind × P n behind

-- a part that has its length in front (a section, 5.5.2, or a function's code, 5.5.13) ends there
abbrev pub PartEnds : List ℕ → ℕ → Type 0
PartEnds bytes end =
    (start : ℕ) × (end ≤ length bytes) × HasNumber (λ n behind. end ≡ behind + n) bytes start

-- the input, or a part of it, ends at an offset
abbrev pub IsEnd : List ℕ → ℕ → ℕ → Type 0
IsEnd bytes end offset = (offset ≡ end) ⊎ PartEnds bytes offset

-- a byte of the header (5.5.15) differs
abbrev pub Differs : List ℕ → ℕ → Type 0
Differs bytes offset = HasByte (λ b. slice_get header_bytes offset ≢ Some b) bytes offset

-- the bytes of f32 and f64
abbrev pub IsFloatType : ℕ → Type 0
IsFloatType b = (0x7c ≤ b) × (b ≤ 0x7d)

-- the opcodes of instructions on floats (5.4.4 and 5.4.5)
abbrev pub IsFloatOpcode : ℕ → Type 0
IsFloatOpcode b =
    ((0x2a ≤ b) × (b ≤ 0x2b)) ⊎ ((0x38 ≤ b) × (b ≤ 0x39)) ⊎ ((0x43 ≤ b) × (b ≤ 0x44))
    ⊎ ((0x5b ≤ b) × (b ≤ 0x66))
    ⊎ ((0x8b ≤ b) × (b ≤ 0xa6)) ⊎ ((0xa8 ≤ b) × (b ≤ 0xab)) ⊎ ((0xae ≤ b) × (b ≤ 0xbf))

abbrev pub IsFloat : ℕ → Type 0
IsFloat b = IsFloatType b ⊎ IsFloatOpcode b

-- the bytes of the module, a number, or an instruction (no `else` or `end`) pass a limit
abbrev pub PassesLimit : List ℕ → ℕ → Type 0
PassesLimit bytes offset =
    ((offset ≡ 262144) × (262144 < length bytes))
    ⊎ HasNumber (λ n _. 0 < n) bytes offset
    ⊎ HasByte (λ b. (b ≢ 0x05) × (b ≢ 0x0b)) bytes offset

-- A byte that has to be 0 stands at an offset: behind `memory.size` or `memory.grow`, or behind
-- the index of a `call_indirect` (5.4.1 and 5.4.4).
abbrev pub IsReserved : List ℕ → ℕ → Type 0
IsReserved bytes offset =
    (start : ℕ) × (
    (HasByte (λ o. (0x3f ≤ o) × (o ≤ 0x40)) bytes start × (offset ≡ start + 1))
    ⊎ (HasByte (λ o. o ≡ 0x11) bytes start
    × HasNumber (λ _ behind. offset ≡ behind) bytes (start + 1)))

-- the greatest of some ids
abbrev pub greatest : List ℕ → ℕ
greatest [] = 0
greatest (id ∷ ids) = max id (greatest ids)

-- sections (5.5.2) with these ids, the last one first, stand between the header and an offset
abbrev pub AreSections : List ℕ → List ℕ → ℕ → Type 0
AreSections [] bytes offset = offset ≡ 8
AreSections (id ∷ ids) bytes offset =
    (start : ℕ) × AreSections ids bytes start × HasByte (λ b. b ≡ id) bytes start
    × HasNumber (λ size behind. offset ≡ behind + size) bytes (start + 1)

-- the same, and this is the greatest of their ids
abbrev pub ComesBehind : (last : ℕ) → List ℕ → ℕ → Type 0
ComesBehind last bytes offset = (ids : List ℕ) × AreSections ids bytes offset × (last ≡ greatest ids)

-- what a kind of fault says of an offset, where the input is read by a profile and ends at `end`
abbrev pub Stands : Profile → FaultKind → (offset end : ℕ) → List ℕ → Type 0
Stands profile Magic offset end bytes = (offset < 4) × Differs bytes offset
Stands profile Version offset end bytes = (4 ≤ offset) × Differs bytes offset
Stands profile EndedEarly offset end bytes = IsEnd bytes end offset
Stands profile BadNumber offset end bytes = NoNumber (drop offset bytes)
-- the id of no section, the start section's apart, or one that is not above those in front
Stands profile SectionOrder offset end bytes =
    HasByte (λ id. (0 < id) × (last : ℕ) × ComesBehind last bytes offset
    × (((row_at section_rows id ≡ None) × (id ≢ 8)) ⊎ (id ≤ last))) bytes offset
-- the length of a section or of a body
Stands profile Length offset end bytes = HasNumber (λ _ _. Unit {0}) bytes offset
-- a byte that is no opcode of the profile (as an `else` of no `if` is none), nor one of floats, or a reserved byte that is not 0
Stands profile Opcode offset end bytes =
    HasByte (λ b. ((row_at (opcodes profile) b ≡ None) × ¬ IsFloatOpcode b) ⊎ ((0 < b) × IsReserved bytes offset)) bytes offset
Stands profile TypeByte offset end bytes = HasByte (λ _. Unit {0}) bytes offset
Stands profile NotUtf8 offset end bytes = NoText (drop offset bytes)
Stands profile Float offset end bytes = HasByte IsFloat bytes offset
Stands profile Limit offset end bytes = PassesLimit bytes offset
-- how many bodies there are, or the end where there is no code section
Stands profile CountsDiffer offset end bytes =
    (offset ≡ length bytes) ⊎ HasNumber (λ _ _. Unit {0}) bytes offset
-- that of a start section (5.5.11), above those in front
Stands profile StartSection offset end bytes =
    HasByte (λ id. (id ≡ 8) × (last : ℕ) × ComesBehind last bytes offset × (last < 8)) bytes offset

-- the kind says something true wherever the byte stands
abbrev pub IsFaultOf : Profile → ℕ → FaultKind → Type 0
IsFaultOf profile b kind =
    (offset end : ℕ) (bytes : List ℕ) → slice_get bytes offset ≡ Some b → Stands profile kind offset end bytes

-- want of memory says nothing of the bytes
abbrev pub Says : Profile → DecodeFault → (end : ℕ) → List ℕ → Type 0
Says profile Memory end bytes = Unit {0}
Says profile (Malformed kind offset) end bytes = Stands profile kind offset end bytes

-- a length stands at one place, and the other one lies that many bytes behind it
abbrev pub PassesSized : Place → Place → Type 0
PassesSized old new = HasNumber (λ size behind. offset_of new ≡ behind + size) old.whole (offset_of old)

-- of the same bytes, with the same end
abbrev pub Kept : Place → Place → Type 0
Kept old new = (new.whole ≡ old.whole) × (new.end ≡ old.end)

-- a reader stays in the bytes of its cursor, and its fault says something true of them
abbrev pub TellsBy : Profile → {X : Type 0} → Result X DecodeFault → Place → Place → Type 0
TellsBy profile (Ok x) old new = Kept old new
TellsBy profile (Err e) old new = Says profile e old.end old.whole

-- the same where the reader goes by no profile, so that its fault is true by each
abbrev pub Tells : {X : Type 0} → Result X DecodeFault → Place → Place → Type 0
Tells (Ok x) old new = Kept old new
Tells (Err e) old new = (profile : Profile) → Says profile e old.end old.whole
