use Rattle.std.proofs.Common.{◌≡◌, ◌∙◌, ap, sym, refl, Some, true≢false}
use Rattle.std.specs.Prelude.{Bool, true, false, not}
use Rattle.std.proofs.lemmas.Slice.Eq.{bytes_eq-Decides}
use Rattle.wasm_typing.specs.Typing.{at}
use Rattle.wasm_typing.specs.HostCalls.{fabric, call_named}
use Rattle.wasm_typing.specs.Broken.{ImportType}
use Rattle.wasm_typing.proofs.Lists.{at_none, item_in}
use Rattle.wasm_typing.proofs.Modules.{import_type}
use Rattle.wasm_typing.proofs.imports.check_import.Goals as goal

unnegated : (b : Bool) → false ≡ not b → b ≡ true
unnegated true e = refl
unnegated false e = e

pub returns-in_default-get-clause-broken : goal.returns-in_default-get-clause-broken
returns-in_default-get-clause-broken c k h =
    let t = c.in-Function.type_index in
    ImportType k c.args.import.now t h c.in-Function.is
    (ap (λ ts. at ts t) (sym c.as_slice.ensures) ∙ at_none c.as_slice.result.now t c.in_default-get.ensures.lookup.3)

pub returns-in-Some-call_named-clause-listed : goal.returns-in-Some-call_named-clause-listed
returns-in-Some-call_named-clause-listed c =
    let found = c.in-Some.ensures.lookup in
    record {
      call = c.in-Some-call_named.call;
      type_index = c.in-Function.type_index;
      function = c.in-Function.is;
      type = item_in c.as_slice.result.now c.args.given.now.types c.in-Function.type_index c.in-Some.function_type.now c.as_slice.ensures found.3.0 found.1 ∙
          ap Some (c.if-is_type_of_call.ensures.0 refl);
      module_name = sym c.as_str.ensures ∙ (bytes_eq-Decides c.as_str.result.now fabric).0 (unnegated _ c.if-ne.ensures);
      name = ap call_named (sym c.as_str-2.ensures) ∙ sym c.in-Some-call_named.ensures;
    }

pub returns-in_default-call_named-clause-broken : goal.returns-in_default-call_named-clause-broken
returns-in_default-call_named-clause-broken c k h =
    let found = c.in-Some.ensures.lookup in
    let call = c.in-Some-call_named.call in
    let its_type = item_in c.as_slice.result.now c.args.given.now.types c.in-Function.type_index c.in-Some.function_type.now c.as_slice.ensures found.3.0
    found.1 in
    let its_name : call_named c.args.import.now.name ≡ Some call = ap call_named (sym c.as_str-2.ensures) ∙ sym c.in-Some-call_named.ensures in (
      k,
      c.args.import.now,
      h,
      λ v. true≢false (sym (c.if-is_type_of_call.ensures.1
          (import_type c.args.given.now.types c.args.import.now c.in-Function.type_index call
          c.in-Some.function_type.now c.in-Function.is its_type its_name v))),
    )
