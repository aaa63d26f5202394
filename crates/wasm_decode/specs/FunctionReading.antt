-- Reading globals, functions and segments from left to right.
use Rattle.std.specs.Prelude.{ℕ, zero, suc, ◌-◌, ◌^◌, List, [], ◌∷◌, ◌++◌, length, replicate, Option, Some, None, ◌==◌, if◌then◌else◌}
use Rattle.wasm_profile.specs.declared.profile.Profile.{Profile}
use Rattle.grammar.specs.Reading.{◌>>=◌, byte_at, at_most, whole_at}
use Rattle.wasm_bytes.specs.Reading.{u32_at, list_at, sized_at}
use Rattle.wasm_ast.specs.declared.types.ValueType.{ValueType}
use Rattle.wasm_ast.specs.declared.module.Func.{Func}
use Rattle.wasm_ast.specs.declared.module.Global.{Global}
use Rattle.wasm_ast.specs.declared.module.ElementSegment.{ElementSegment}
use Rattle.wasm_ast.specs.declared.module.DataSegment.{DataSegment}
use Rattle.wasm_decode.specs.TypeReading.{value_type_at, global_type_at}
use Rattle.wasm_decode.specs.CodeReading.{expression_at}

-- so many groups, where there is room for so many locals
unfoldable pub groups_at : ℕ → ℕ → List ℕ → Option (List ValueType × List ℕ)
groups_at room zero bytes = Some ([], bytes)
groups_at room (suc n) bytes =
    at_most room u32_at bytes >>= λ c. (value_type_at c.1 >>= λ t. (groups_at (room - c.0) n t.1 >>= λ ls. Some (replicate c.0 t.0 ++ ls.0, ls.1)))

unfoldable pub locals_at : List ℕ → Option (List ValueType × List ℕ)
locals_at bytes = u32_at bytes >>= λ n. groups_at 192 n.0 n.1

abbrev pub code_parts_at : Profile → ℕ → List ℕ → Option (Func × List ℕ)
code_parts_at profile type_index bytes =
    locals_at bytes >>= λ locals.
    (expression_at profile locals.1 >>= λ body. Some (record { type_index = type_index; locals = locals.0; body = body.0 }, body.1))

unfoldable pub code_at : Profile → ℕ → List ℕ → Option (Func × List ℕ)
code_at profile type_index = sized_at (whole_at (code_parts_at profile type_index))

unfoldable pub codes_at : Profile → List ℕ → List ℕ → Option (List Func × List ℕ)
codes_at profile [] bytes = Some ([], bytes)
codes_at profile (i ∷ is) bytes = code_at profile i bytes >>= λ f. (codes_at profile is f.1 >>= λ fs. Some (f.0 ∷ fs.0, fs.1))

unfoldable pub functions_at : Profile → List ℕ → List ℕ → Option (List Func × List ℕ)
functions_at profile type_indices bytes = at_most 1024 u32_at bytes >>= λ n. if n.0 == length type_indices then codes_at profile type_indices n.1 else None

unfoldable pub global_at : Profile → List ℕ → Option (Global × List ℕ)
global_at profile bytes =
    global_type_at bytes >>= λ type. (expression_at profile type.1 >>= λ init. Some (record { global_type = type.0; initializer = init.0 }, init.1))

unfoldable pub element_at : Profile → List ℕ → Option (ElementSegment × List ℕ)
element_at profile bytes = u32_at bytes >>= λ table.
    (expression_at profile table.1 >>= λ offset.
    (list_at 1024 u32_at offset.1 >>= λ functions. Some (record { table = table.0; offset = offset.0; functions = functions.0 }, functions.1)))

unfoldable pub data_at : Profile → List ℕ → Option (DataSegment × List ℕ)
data_at profile bytes = u32_at bytes >>= λ memory.
    (expression_at profile memory.1 >>= λ offset.
    (list_at (2 ^ 32 - 1) byte_at offset.1 >>= λ bytes. Some (record { memory = memory.0; offset = offset.0; bytes = bytes.0 }, bytes.1)))
