-- Reading sections from left to right.
use Rattle.std.specs.Prelude.{ℕ, zero, suc, List, [], ◌∷◌, Option, Some, None, nat_lt, ◌==◌, if◌then◌else◌}
use Rattle.wasm_profile.specs.declared.profile.Profile.{Profile}
use Rattle.grammar.specs.Reading.{◌>>=◌, byte_at, made_at, whole_at}
use Rattle.grammar.specs.Table.{row_at}
use Rattle.wasm_bytes.specs.Reading.{u32_at, name_at, list_at, sized_at}
use Rattle.wasm_decode.specs.declared.sections.Kind.{Kind}
use Rattle.wasm_decode.specs.declared.sections.Kind.TheVariants.{Types, Imports, TypeIndices, Tables, Memories, Globals, Exports, Elements, Functions, Data}
use Rattle.wasm_decode.specs.declared.sections.Parts.{Parts}
use Rattle.wasm_decode.specs.PartsOf.{with_types, with_imports, with_type_indices, with_tables, with_memories, with_globals, with_exports, with_elements}
use Rattle.wasm_decode.specs.PartsOf.{with_functions, with_data}
use Rattle.wasm_decode.specs.TypeReading.{func_type_at, table_type_at, memory_type_at}
use Rattle.wasm_decode.specs.ExternalReading.{import_at, export_at}
use Rattle.wasm_decode.specs.FunctionReading.{global_at, functions_at, element_at, data_at}

-- sections of each profile, but for custom ones
abbrev pub section_rows : List (ℕ × Kind)
section_rows = (1, Types) ∷ (2, Imports) ∷ (3, TypeIndices) ∷ (4, Tables) ∷ (5, Memories) ∷ (6, Globals) ∷ (7, Exports) ∷ (9, Elements) ∷ (10, Functions) ∷
    (11, Data) ∷ []

-- the parts after a section of a kind
abbrev pub fill_at : Profile → Kind → Parts → List ℕ → Option (Parts × List ℕ)
fill_at profile Types p bytes = made_at (with_types p) (list_at 1024 func_type_at) bytes
fill_at profile Imports p bytes = made_at (with_imports p) (list_at 64 import_at) bytes
fill_at profile TypeIndices p bytes = made_at (with_type_indices p) (list_at 1024 u32_at) bytes
fill_at profile Tables p bytes = made_at (with_tables p) (list_at 64 table_type_at) bytes
fill_at profile Memories p bytes = made_at (with_memories p) (list_at 64 memory_type_at) bytes
fill_at profile Globals p bytes = made_at (with_globals p) (list_at 64 (global_at profile)) bytes
fill_at profile Exports p bytes = made_at (with_exports p) (list_at 64 export_at) bytes
fill_at profile Elements p bytes = made_at (with_elements p) (list_at 64 (element_at profile)) bytes
fill_at profile Functions p bytes = made_at (with_functions p) (functions_at profile p.type_indices) bytes
fill_at profile Data p bytes = made_at (with_data p) (list_at 64 (data_at profile)) bytes

-- a custom section: a name, and any bytes
abbrev pub custom_at : List ℕ → Option (Unit {0})
custom_at content = name_at content >>= λ name. Some tt

-- the id after which the next section has to come, and the parts
unfoldable pub section_at : Profile → ℕ → Parts → List ℕ → Option ((ℕ × Parts) × List ℕ)
section_at profile last p bytes =
    byte_at bytes >>= λ id.
    if id.0 == 0 then (sized_at custom_at id.1 >>= λ u. Some ((last, p), u.1))
    else (row_at section_rows id.0 >>= λ k. if nat_lt last id.0 then (sized_at (whole_at (fill_at profile k p)) id.1 >>= λ n. Some ((id.0, n.0), n.1)) else
    None)

-- The number bounds the turns. The count of the bytes is always enough.
unfoldable pub sections_at : Profile → ℕ → ℕ → Parts → List ℕ → Option Parts
sections_at profile n last p [] = Some p
sections_at profile zero last p (b ∷ bytes) = None
sections_at profile (suc n) last p (b ∷ bytes) = section_at profile last p (b ∷ bytes) >>= λ s. sections_at profile n s.0.0 s.0.1 s.1
