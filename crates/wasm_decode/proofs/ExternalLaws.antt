-- The reading functions of imports and exports read their spellings.
use Rattle.std.proofs.Common.{◌≡◌, ℕ, List, Option, Some, refl, sym, ap₂}
use Rattle.grammar.specs.Reading.{◌>>=◌}
use Rattle.grammar.specs.Table.{IsByRow, IsRowByte, row_byte_at, by_row_at}
use Rattle.grammar.specs.Reads.{Reads, Any}
use Rattle.grammar.specs.Laws.Wholes.{row_reads, by_row_reads, made_reads, then_reads, last_reads}
use Rattle.wasm_bytes.specs.Spelling.{IsU32, IsName}
use Rattle.wasm_bytes.specs.Reading.{u32_at, name_at}
use Rattle.wasm_bytes.specs.Laws.Names.{name_reads}
use Rattle.wasm_ast.specs.declared.module.ExternalKind.{ExternalKind}
use Rattle.wasm_ast.specs.declared.module.ExternalKind.TheVariants as external
use Rattle.wasm_ast.specs.declared.module.ImportKind.{ImportKind}
use Rattle.wasm_ast.specs.declared.module.ImportKind.TheVariants.{Function, Table, Memory, Global}
use Rattle.wasm_ast.specs.declared.module.Import.{Import}
use Rattle.wasm_ast.specs.declared.module.Export.{Export}
use Rattle.wasm_decode.specs.Tables.{external_kind_rows}
use Rattle.wasm_decode.specs.TypeSpelling.{IsTableType, IsMemoryType, IsGlobalType}
use Rattle.wasm_decode.specs.TypeReading.{table_type_at, memory_type_at, global_type_at}
use Rattle.wasm_decode.specs.ExternalSpelling.{IsImportAs, IsImport, IsExport}
use Rattle.wasm_decode.specs.ExternalReading.{import_after, import_at, export_at}
use Rattle.wasm_decode.proofs.TypeLaws.{u32_reads, table_type_reads, memory_type_reads, global_type_reads}

import_as_reads : (k : ExternalKind) → Reads (IsImportAs k) (import_after k)
import_as_reads external.Function = made_reads Function IsU32 u32_at u32_reads
import_as_reads external.Table = made_reads Table IsTableType table_type_at table_type_reads
import_as_reads external.Memory = made_reads Memory IsMemoryType memory_type_at memory_type_reads
import_as_reads external.Global = made_reads Global IsGlobalType global_type_at global_type_reads

abbrev kind_at : List ℕ → Option (ImportKind × List ℕ)
kind_at = by_row_at external_kind_rows import_after

pub import_reads : Reads IsImport import_at
unfolding import_at
import_reads =
    then_reads Any IsName name_at (λ (i : Import). i.module) _
    (λ from bytes. name_at bytes >>= λ name. (kind_at name.1 >>= λ kind. Some (record { «module» = from; name = name.0; kind = kind.0 }, kind.1)))
    name_reads
    (λ from. then_reads (λ (i : Import). Any i × (i.module ≡ from)) IsName name_at (λ i. i.name) _
    (λ name bytes. kind_at bytes >>= λ kind. Some (record { «module» = from; name = name; kind = kind.0 }, kind.1)) name_reads
    (λ name. last_reads (λ (i : Import). (Any i × (i.module ≡ from)) × (i.name ≡ name)) (IsByRow external_kind_rows IsImportAs) kind_at (λ i. i.kind)
    (λ kind. record { «module» = from; name = name; kind = kind })
    (by_row_reads external_kind_rows IsImportAs import_after refl import_as_reads)
    (λ kind. (((tt, refl), refl), refl))
    (λ i k. ap₂ (λ (from name : List ℕ). let made : Import = record { «module» = from; name = name; kind = i.kind } in made) (sym k.0.1) (sym k.1))))

pub export_reads : Reads IsExport export_at
unfolding export_at
export_reads =
    then_reads Any IsName name_at (λ (e : Export). e.name) _
    (λ name bytes. row_byte_at external_kind_rows bytes >>= λ kind.
    (u32_at kind.1 >>= λ index. Some (record { name = name; kind = kind.0; index = index.0 }, index.1))) name_reads
    (λ name. then_reads (λ (e : Export). Any e × (e.name ≡ name)) (IsRowByte external_kind_rows) (row_byte_at external_kind_rows) (λ e. e.kind) _
    (λ kind bytes. u32_at bytes >>= λ index. Some (record { name = name; kind = kind; index = index.0 }, index.1)) (row_reads external_kind_rows refl)
    (λ kind. last_reads (λ (e : Export). (Any e × (e.name ≡ name)) × (e.kind ≡ kind)) IsU32 u32_at (λ e. e.index)
    (λ index. record { name = name; kind = kind; index = index }) u32_reads
    (λ index. (((tt, refl), refl), refl))
    (λ e k. ap₂ (λ (name : List ℕ) (kind : ExternalKind). let made : Export = record { name = name; kind = kind; index = e.index } in made) (sym k.0.1)
    (sym k.1))))
