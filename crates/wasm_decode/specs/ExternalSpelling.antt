-- Which bytes spell which import and which export (Core 1.0, sections 5.5.5 and 5.5.10).
use Rattle.std.specs.Prelude.{ℕ, List}
use Rattle.grammar.specs.Spelling.{◌⟫◌, IsMade}
use Rattle.grammar.specs.Table.{IsRowByte, IsByRow}
use Rattle.wasm_bytes.specs.Spelling.{IsU32, IsName}
use Rattle.wasm_ast.specs.declared.module.ExternalKind.{ExternalKind}
use Rattle.wasm_ast.specs.declared.module.ExternalKind.TheVariants as external
use Rattle.wasm_ast.specs.declared.module.ImportKind.{ImportKind}
use Rattle.wasm_ast.specs.declared.module.ImportKind.TheVariants.{Function, Table, Memory, Global}
use Rattle.wasm_ast.specs.declared.module.Import.{Import}
use Rattle.wasm_ast.specs.declared.module.Export.{Export}
use Rattle.wasm_decode.specs.Tables.{external_kind_rows}
use Rattle.wasm_decode.specs.TypeSpelling.{IsTableType, IsMemoryType, IsGlobalType}

-- after the byte of its kind
abbrev pub IsImportAs : ExternalKind → ImportKind → List ℕ → Type 0
IsImportAs external.Function = IsMade Function IsU32
IsImportAs external.Table = IsMade Table IsTableType
IsImportAs external.Memory = IsMade Memory IsMemoryType
IsImportAs external.Global = IsMade Global IsGlobalType

abbrev pub IsImport : Import → List ℕ → Type 0
IsImport i = IsName i.«module» ⟫ IsName i.name ⟫ IsByRow external_kind_rows IsImportAs i.kind

abbrev pub IsExport : Export → List ℕ → Type 0
IsExport e = IsName e.name ⟫ IsRowByte external_kind_rows e.kind ⟫ IsU32 e.index
