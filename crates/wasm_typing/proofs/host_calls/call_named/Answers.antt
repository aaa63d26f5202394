use Rattle.std.proofs.Common.{◌≡◌, ◌≢◌, ◌==◌, ℕ, true, false, cond, List, [], ◌∷◌, None, Some, refl, sym}
use Rattle.std.specs.Cmp.Lexicographic.{pointwise, same_text}
use Rattle.wasm_ast.specs.declared.host_call.HostCall.{HostCall}
use Rattle.wasm_ast.specs.declared.host_call.HostCall.TheVariants.{GetState, PutState, DelState, RangeState, GetArg, SetResult}
use Rattle.wasm_typing.specs.HostCalls.{name_of, named_in}
use Rattle.wasm_typing.proofs.host_calls.call_named.Goals as goal

passed : (call : HostCall) (calls : List HostCall) (name : List ℕ) → name ≢ name_of call → None ≡ named_in calls name → None ≡ named_in (call ∷ calls) name
passed call calls name other rest =
    elim (pointwise ◌==◌ (name_of call) name) as (λ b. pointwise ◌==◌ (name_of call) name ≡ b → None ≡ cond b (Some call) (named_in calls name)) [
      | true ↦ λ e. absurd (other (sym (same_text (name_of call) name (sym e))))
      | false ↦ λ _. rest
    ] refl

pub returns-in_default : goal.returns-in_default
returns-in_default c =
    let name = c.args.name.now in
    let last = passed SetResult [] name c.in_default.not-set_result refl in
    let fifth = passed GetArg (SetResult ∷ []) name c.in_default.not-get_arg last in
    let fourth = passed RangeState (GetArg ∷ SetResult ∷ []) name c.in_default.not-range_state fifth in
    let third = passed DelState (RangeState ∷ GetArg ∷ SetResult ∷ []) name c.in_default.not-del_state fourth in
    let second = passed PutState (DelState ∷ RangeState ∷ GetArg ∷ SetResult ∷ []) name c.in_default.not-put_state third in
    passed GetState (PutState ∷ DelState ∷ RangeState ∷ GetArg ∷ SetResult ∷ []) name c.in_default.not-get_state second
