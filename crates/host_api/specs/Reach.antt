-- How far the bytes reach that a call of the host is given.
use Rattle.std.specs.Prelude.{ℕ, ◌+◌, List, max}
use Rattle.wasm_ast.specs.declared.host_call.HostCall.{HostCall}
use Rattle.wasm_ast.specs.declared.host_call.HostCall.TheVariants as call
use Rattle.host_api.specs.HostStep.{nth}

-- the end of the bytes of a pointer, the argument at a place, and of the length behind it
abbrev pub end_at : List ℕ → (place : ℕ) → ℕ
end_at args i = nth args i + nth args (i + 1)

abbrev pub reach : HostCall → List ℕ → ℕ
reach call.GetState args = max (end_at args 0) (end_at args 2)
reach call.PutState args = max (end_at args 0) (end_at args 2)
reach call.DelState args = end_at args 0
reach call.RangeState args = max (max (end_at args 0) (end_at args 2)) (end_at args 5)
reach call.GetArg args = end_at args 0
reach call.SetResult args = end_at args 0
