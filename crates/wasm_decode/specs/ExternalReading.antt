-- Reading imports and exports from left to right.
use Rattle.std.specs.Prelude.{ℕ, List, Option, Some}
use Rattle.grammar.specs.Reading.{◌>>=◌, made_at}
use Rattle.grammar.specs.Table.{row_byte_at, by_row_at}
use Rattle.wasm_bytes.specs.Reading.{u32_at, name_at}
use Rattle.wasm_ast.specs.declared.module.ExternalKind.{ExternalKind}
use Rattle.wasm_ast.specs.declared.module.ExternalKind.TheVariants as external
use Rattle.wasm_ast.specs.declared.module.ImportKind.{ImportKind}
use Rattle.wasm_ast.specs.declared.module.ImportKind.TheVariants.{Function, Table, Memory, Global}
use Rattle.wasm_ast.specs.declared.module.Import.{Import}
use Rattle.wasm_ast.specs.declared.module.Export.{Export}
use Rattle.wasm_decode.specs.Tables.{external_kind_rows}
use Rattle.wasm_decode.specs.TypeReading.{table_type_at, memory_type_at, global_type_at}

abbrev pub import_after : ExternalKind → List ℕ → Option (ImportKind × List ℕ)
import_after external.Function = made_at Function u32_at
import_after external.Table = made_at Table table_type_at
import_after external.Memory = made_at Memory memory_type_at
import_after external.Global = made_at Global global_type_at

unfoldable pub import_at : List ℕ → Option (Import × List ℕ)
import_at bytes = name_at bytes >>= λ from.
    (name_at from.1 >>= λ name.
    (by_row_at external_kind_rows import_after name.1 >>= λ kind. Some (record { «module» = from.0; name = name.0; kind = kind.0 }, kind.1)))

unfoldable pub export_at : List ℕ → Option (Export × List ℕ)
export_at bytes = name_at bytes >>= λ name.
    (row_byte_at external_kind_rows name.1 >>= λ kind. (u32_at kind.1 >>= λ index. Some (record { name = name.0; kind = kind.0; index = index.0 }, index.1)))
