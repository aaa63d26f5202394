-- A module as its sections build it one after another.
use Rattle.std.proofs.Common.{◌≡◌, ℕ, ◌<◌, List, [], ◌∷◌, ◌++◌, length}
use Rattle.wasm_profile.specs.declared.profile.Profile.{Profile}
use Rattle.grammar.specs.Spelling.{◌⟫◌, IsText, IsMade, Repeats}
use Rattle.grammar.specs.Table.{HasRow}
use Rattle.wasm_bytes.specs.Spelling.{IsU32, IsName, IsList}
use Rattle.wasm_ast.specs.declared.module.Module.{Module}
use Rattle.wasm_decode.specs.declared.sections.Kind.{Kind}
use Rattle.wasm_decode.specs.declared.sections.Kind.TheVariants.{Types, Imports, TypeIndices, Tables, Memories, Globals, Exports, Elements, Functions, Data}
use Rattle.wasm_decode.specs.declared.sections.Parts.{Parts}
use Rattle.wasm_decode.specs.TypeSpelling.{IsFuncType, IsTableType, IsMemoryType}
use Rattle.wasm_decode.specs.ExternalSpelling.{IsImport, IsExport}
use Rattle.wasm_decode.specs.FunctionSpelling.{IsGlobal, IsFunctions, IsElementSegment, IsDataSegment}
use Rattle.wasm_decode.specs.PartsOf.{no_parts, with_types, with_imports, with_type_indices, with_tables, with_memories, with_globals, with_exports}
use Rattle.wasm_decode.specs.PartsOf.{with_elements, with_functions, with_data}
use Rattle.wasm_decode.specs.SectionReading.{section_rows}
use Rattle.wasm_decode.specs.ModuleSpelling.{IsSection, IsHeader}

-- what a section of a kind makes of the parts
abbrev pub Fills : Profile → Kind → Parts → Parts → List ℕ → Type 0
Fills profile Types p = IsMade (with_types p) (IsList 1024 IsFuncType)
Fills profile Imports p = IsMade (with_imports p) (IsList 64 IsImport)
Fills profile TypeIndices p = IsMade (with_type_indices p) (IsList 1024 IsU32)
Fills profile Tables p = IsMade (with_tables p) (IsList 64 IsTableType)
Fills profile Memories p = IsMade (with_memories p) (IsList 64 IsMemoryType)
Fills profile Globals p = IsMade (with_globals p) (IsList 64 (IsGlobal profile))
Fills profile Exports p = IsMade (with_exports p) (IsList 64 IsExport)
Fills profile Elements p = IsMade (with_elements p) (IsList 64 (IsElementSegment profile))
Fills profile Functions p = IsMade (with_functions p) (IsFunctions profile p.type_indices)
Fills profile Data p = IsMade (with_data p) (IsList 64 (IsDataSegment profile))

pub data Section : Type 0 where
  custom : (content : List ℕ) → Section
  known : (id : ℕ) → Kind → (content : List ℕ) → Section

abbrev pub IsOne : Section → List ℕ → Type 0
IsOne (custom content) = IsSection 0 (IsText content)
IsOne (known id k content) = IsSection id (IsText content)

-- The sections build the last parts from the first. The ids of those that are not custom ascend.
abbrev pub Builds : Profile → ℕ → Parts → List Section → Parts → Type 0
Builds profile last p [] end = p ≡ end
Builds profile last p (custom content ∷ ss) end = (name text rest : List ℕ) × IsName name text × (content ≡ text ++ rest) × Builds profile last p ss end
Builds profile last p (known id k content ∷ ss) end =
    (next : Parts) × HasRow section_rows id k × (last < id) × Fills profile k p next content × Builds profile id next ss end

-- what reading a module gives: there is code for each function that has a type
pub record IsBuilt (profile : Profile) (m : Module) (bytes : List ℕ) : Type 0 where
  pub sections : List Section
  pub type_indices : List ℕ
  pub text : List ℕ
  pub split : (IsHeader ⟫ IsText text) bytes
  pub spelled : Repeats IsOne sections text
  pub builds : Builds profile 0 no_parts sections (record { type_indices = type_indices; «module» = m })
  pub counted : length type_indices ≡ length m.functions
