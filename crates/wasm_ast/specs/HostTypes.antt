-- The types of the host calls.
use Rattle.std.specs.Prelude.{ℕ, Some, replicate}
use Rattle.wasm_ast.specs.declared.types.ValueType.TheVariants.{I32}
use Rattle.wasm_ast.specs.declared.types.FuncType.{FuncType}
use Rattle.wasm_ast.specs.declared.host_call.HostCall.{HostCall}
use Rattle.wasm_ast.specs.declared.host_call.HostCall.TheVariants.{GetState, PutState, DelState, RangeState, GetArg, SetResult}

-- how many parameters a call has
abbrev pub arity : HostCall → ℕ
arity GetState = 4
arity PutState = 4
arity DelState = 2
arity RangeState = 7
arity GetArg = 2
arity SetResult = 2

-- all parameters are i32, and so is the answer
abbrev pub call_type : HostCall → FuncType
call_type which = record { params = replicate (arity which) I32; result = Some I32 }
