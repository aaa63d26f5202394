-- Which bytes spell which module (Core 1.0, section 5.5), within the limits of the profile.
use Rattle.std.specs.Prelude.{◌≡◌, ℕ, ◌≤◌, ◌⊎◌, List, [], ◌∷◌, length, map}
use Rattle.wasm_profile.specs.declared.profile.Profile.{Profile}
use Rattle.grammar.specs.Spelling.{◌⟫◌, IsByte, IsEmpty, IsText, Repeats}
use Rattle.wasm_bytes.specs.Spelling.{IsU32, IsName, IsList, IsSized}
use Rattle.wasm_ast.specs.declared.module.Module.{Module}
use Rattle.wasm_decode.specs.TypeSpelling.{IsFuncType, IsTableType, IsMemoryType}
use Rattle.wasm_decode.specs.ExternalSpelling.{IsImport, IsExport}
use Rattle.wasm_decode.specs.FunctionSpelling.{IsGlobal, IsFunctionCode, IsElementSegment, IsDataSegment}

-- a section (5.5.2): its id, the size of its content, and its content
abbrev pub IsSection : ℕ → (List ℕ → Type 0) → List ℕ → Type 0
IsSection id IsContent = IsByte id ⟫ IsSized IsContent

-- any bytes at all
abbrev pub AnyBytes : List ℕ → Type 0
AnyBytes text = Unit {0}

-- a custom section (5.5.3): a name, and any bytes
abbrev pub IsCustom : List ℕ → List ℕ → Type 0
IsCustom name = IsSection 0 (IsName name ⟫ AnyBytes)

-- any custom sections, one after another
abbrev pub IsCustoms : List ℕ → Type 0
IsCustoms text = (names : List (List ℕ)) × Repeats IsCustom names text

-- a section of a list, which may be left out where the list is empty
abbrev pub IsOptional : {A : Type 0} → ℕ → (List A → List ℕ → Type 0) → List A → List ℕ → Type 0
IsOptional id IsContent xs text = IsSection id (IsContent xs) text ⊎ ((xs ≡ []) × IsEmpty text)

-- the same, and any custom sections after it
abbrev pub IsPart : {A : Type 0} → ℕ → (List A → List ℕ → Type 0) → List A → List ℕ → Type 0
IsPart id IsContent xs = IsOptional id IsContent xs ⟫ IsCustoms

-- four bytes by which a module is known, and the version
abbrev pub IsHeader : List ℕ → Type 0
IsHeader = IsText (0x00 ∷ 0x61 ∷ 0x73 ∷ 0x6d ∷ 0x01 ∷ 0x00 ∷ 0x00 ∷ 0x00 ∷ [])

-- 5.5.4 to 5.5.14: the types of functions stand apart from their code. A start section is not in the profile.
abbrev pub IsSections : Profile → List ℕ → Module → List ℕ → Type 0
IsSections profile type_indices m =
    IsPart 1 (IsList 1024 IsFuncType) m.types
    ⟫ IsPart 2 (IsList 64 IsImport) m.imports
    ⟫ IsPart 3 (IsList 1024 IsU32) type_indices
    ⟫ IsPart 4 (IsList 64 IsTableType) m.tables
    ⟫ IsPart 5 (IsList 64 IsMemoryType) m.memories
    ⟫ IsPart 6 (IsList 64 (IsGlobal profile)) m.globals
    ⟫ IsPart 7 (IsList 64 IsExport) m.exports
    ⟫ IsPart 9 (IsList 64 (IsElementSegment profile)) m.elements
    ⟫ IsPart 10 (IsList 1024 (IsFunctionCode profile)) m.functions
    ⟫ IsPart 11 (IsList 64 (IsDataSegment profile)) m.«data»

-- 5.5.15, with at most 262,144 bytes
abbrev pub IsModule : Profile → Module → List ℕ → Type 0
IsModule profile m bytes = (length bytes ≤ 262144) × (IsHeader ⟫ IsCustoms ⟫ IsSections profile (map (λ f. f.type_index) m.functions) m) bytes
