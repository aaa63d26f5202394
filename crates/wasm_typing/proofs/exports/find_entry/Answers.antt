use Rattle.std.proofs.Common.{◌≡◌, ◌∙◌, ℕ, List, Some, refl, ap, sym, true≢false}
use Rattle.std.proofs.lemmas.Option.{MatchOption-at_none}
use Rattle.wasm_ast.specs.declared.module.Export.{Export}
use Rattle.wasm_ast.specs.declared.module.Module.{Module}
use Rattle.wasm_typing.specs.Typing.{at}
use Rattle.wasm_typing.specs.ModuleRules.{function_types, invoke_in, invoke_type}
use Rattle.wasm_typing.specs.Broken.{NoEntry}
use Rattle.wasm_typing.proofs.Modules.{none_some, some_same}
use Rattle.wasm_typing.proofs.exports.find_entry.Goals as goal

-- the function that is exported as `invoke` is of another type
other_type : (m : Module) (es : List Export) (entry : ℕ) → Some entry ≡ invoke_in es → es ≡ m.exports →
    (at (function_types m) entry ≡ Some invoke_type → ⊥) → NoEntry m
other_type m es entry found same other e is typed =
    let named : e ≡ entry = some_same (invoke_in es) e entry (ap invoke_in same ∙ is) (sym found) in
    other (ap (at (function_types m)) (sym named) ∙ typed)

pub returns-in_default-clause-broken : goal.returns-in_default-clause-broken
returns-in_default-clause-broken c entry is typed =
    none_some (invoke_in c.args.given.now.exports) entry (sym (c.in_default.ensures ∙ ap invoke_in c.as_slice.ensures)) is

pub returns-in-Some-type_of-clause-entry_type : goal.returns-in-Some-type_of-clause-entry_type
returns-in-Some-type_of-clause-entry_type c = c.in-Some-type_of.ensures ∙ ap Some (c.if-is_invoke_type.ensures.0 refl)

pub returns-in_default-type_of-clause-broken : goal.returns-in_default-type_of-clause-broken
returns-in_default-type_of-clause-broken c =
    let types = function_types c.args.given.now in
    other_type c.args.given.now c.as_slice.result.now c.in-Some.entry c.in-Some.ensures c.as_slice.ensures
    (λ typed. true≢false (sym (c.if-is_invoke_type.ensures.1
    (some_same (at types c.in-Some.entry) c.in-Some-type_of.function_type.now invoke_type c.in-Some-type_of.ensures typed))))

pub returns-in_default-type_of-2-clause-broken : goal.returns-in_default-type_of-2-clause-broken
returns-in_default-type_of-2-clause-broken c =
    let types = function_types c.args.given.now in
    let none = MatchOption-at_none _ _ c.in_default-type_of.is c.type_of.ensures in
    other_type c.args.given.now c.as_slice.result.now c.in-Some.entry c.in-Some.ensures c.as_slice.ensures
    (λ typed. none_some (at types c.in-Some.entry) invoke_type none typed)
