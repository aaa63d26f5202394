-- The functions that chaincode may import, all of the module `fabric`.
use Rattle.std.specs.Prelude.{◌==◌, ℕ, List, [], ◌∷◌, Option, Some, None, if◌then◌else◌, codes}
use Rattle.std.specs.Cmp.Lexicographic.{pointwise}
use Rattle.wasm_ast.specs.declared.module.Import.{Import}
use Rattle.wasm_ast.specs.declared.host_call.HostCall.{HostCall}
pub use Rattle.wasm_ast.specs.HostTypes.{arity, call_type}
use Rattle.wasm_ast.specs.declared.host_call.HostCall.TheVariants.{GetState, PutState, DelState, RangeState, GetArg, SetResult}

abbrev pub fabric : List ℕ
fabric = codes "fabric"

abbrev pub name_of : HostCall → List ℕ
name_of GetState = codes "get_state"
name_of PutState = codes "put_state"
name_of DelState = codes "del_state"
name_of RangeState = codes "range_state"
name_of GetArg = codes "get_arg"
name_of SetResult = codes "set_result"

-- the calls that the profile has
abbrev pub profile_calls : List HostCall
profile_calls = GetState ∷ PutState ∷ DelState ∷ RangeState ∷ GetArg ∷ SetResult ∷ []

abbrev pub named_in : List HostCall → List ℕ → Option HostCall
named_in [] name = None
named_in (c ∷ cs) name = if pointwise ◌==◌ (name_of c) name then Some c else named_in cs name

-- the call of a name
abbrev pub call_named : List ℕ → Option HostCall
call_named name = named_in profile_calls name

-- the calls of imports, in order; a name that is none is passed over
abbrev pub then_call : Option HostCall → List HostCall → List HostCall
then_call None cs = cs
then_call (Some c) cs = c ∷ cs

abbrev pub host_calls : List Import → List HostCall
host_calls [] = []
host_calls (i ∷ is) = then_call (call_named i.name) (host_calls is)
