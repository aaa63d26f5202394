-- Reading types from left to right.
use Rattle.std.specs.Prelude.{ℕ, Bool, true, false, List, Option, Some, None, ◌==◌, if◌then◌else◌}
use Rattle.grammar.specs.Reading.{◌>>=◌, tagged_at, at_most}
use Rattle.grammar.specs.Table.{row_byte_at, by_row_at}
use Rattle.wasm_bytes.specs.Reading.{u32_at, list_at}
use Rattle.wasm_ast.specs.declared.types.ValueType.{ValueType}
use Rattle.wasm_ast.specs.declared.types.FuncType.{FuncType}
use Rattle.wasm_ast.specs.declared.types.Limits.{Limits}
use Rattle.wasm_ast.specs.declared.types.GlobalType.{GlobalType}
use Rattle.wasm_decode.specs.Tables.{value_type_rows, flag_rows}

abbrev pub value_type_at : List ℕ → Option (ValueType × List ℕ)
value_type_at = row_byte_at value_type_rows

unfoldable pub result_at : List ℕ → Option (Option ValueType × List ℕ)
result_at bytes = at_most 1 u32_at bytes >>= λ n. if n.0 == 0 then Some (None, n.1) else (value_type_at n.1 >>= λ t. Some (Some t.0, t.1))

unfoldable pub func_type_at : List ℕ → Option (FuncType × List ℕ)
func_type_at = tagged_at 0x60
    (λ bytes. list_at 64 value_type_at bytes >>= λ params. (result_at params.1 >>= λ result. Some (record { params = params.0; result = result.0 }, result.1)))

abbrev pub after_flag : ℕ → Bool → List ℕ → Option (Limits × List ℕ)
after_flag most false bytes = at_most most u32_at bytes >>= λ least. Some (record { least = least.0; greatest = None }, least.1)
after_flag most true bytes =
    at_most most u32_at bytes >>= λ least. (u32_at least.1 >>= λ greatest. Some (record { least = least.0; greatest = Some greatest.0 }, greatest.1))

unfoldable pub limits_at : ℕ → List ℕ → Option (Limits × List ℕ)
limits_at most = by_row_at flag_rows (after_flag most)

unfoldable pub memory_type_at : List ℕ → Option (Limits × List ℕ)
memory_type_at bytes = limits_at 16 bytes

unfoldable pub table_type_at : List ℕ → Option (Limits × List ℕ)
table_type_at = tagged_at 0x70 (limits_at 1024)

unfoldable pub global_type_at : List ℕ → Option (GlobalType × List ℕ)
global_type_at bytes = value_type_at bytes >>= λ t. (row_byte_at flag_rows t.1 >>= λ v. Some (record { value_type = t.0; is_variable = v.0 }, v.1))
