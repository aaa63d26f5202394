-- The bytes that stand for types and kinds (Core 1.0, sections 5.3 and 5.5).
use Rattle.std.specs.Prelude.{ℕ, Bool, true, false, List, [], ◌∷◌, Some, None}
use Rattle.wasm_ast.specs.declared.types.ValueType.{ValueType}
use Rattle.wasm_ast.specs.declared.types.ValueType.TheVariants.{I32, I64}
use Rattle.wasm_ast.specs.Code.{BlockType}
use Rattle.wasm_ast.specs.declared.module.ExternalKind.{ExternalKind}
use Rattle.wasm_ast.specs.declared.module.ExternalKind.TheVariants as external

-- value types (5.3.1)
abbrev pub value_type_rows : List (ℕ × ValueType)
value_type_rows = (0x7f, I32) ∷ (0x7e, I64) ∷ []

-- what a block leaves (5.3.2): nothing, or a value
abbrev pub block_type_rows : List (ℕ × BlockType)
block_type_rows = (0x40, None) ∷ (0x7f, Some I32) ∷ (0x7e, Some I64) ∷ []

-- whether limits have a greatest size (5.3.4), and whether a global is variable (5.3.7)
abbrev pub flag_rows : List (ℕ × Bool)
flag_rows = (0x00, false) ∷ (0x01, true) ∷ []

-- what is imported (5.5.5) or exported (5.5.10)
abbrev pub external_kind_rows : List (ℕ × ExternalKind)
external_kind_rows = (0x00, external.Function) ∷ (0x01, external.Table) ∷ (0x02, external.Memory) ∷ (0x03, external.Global) ∷ []
