use Rattle.std.proofs.Common.{◌++◌, ap, ◌∙◌}
use Rattle.std.proofs.lemmas.Result.{IfOk-weaker}
use Rattle.wasm_typing.proofs.Functions.{Parts, errs_both, function_typed, function_broken}
use Rattle.wasm_typing.proofs.code.check_function.Goals as goal

parts : (c : goal.After-drop-locals-2) →
    Parts c.args.given.now c.args.function.now c.index-types-function.result c.as_slice-types.result.now c.args.functions.now c.as_slice-3.result.now
    c.as_slice-4.result.now c.as_slice-5.result.now c.deref.result.now c.new-labels.result
parts c =
    record {
      types_are = c.as_slice-types.ensures;
      functions_are = c.requires.indices;
      tables_are = c.as_slice-3.ensures;
      memories_are = c.as_slice-4.ensures;
      globals_are = c.as_slice-5.ensures;
      bound = c.requires.has_type;
      type_is = c.index-types-function.is;
      locals_are = c.deref.ensures.value ∙ c.in_ok-extend_from_slice.ensures.items ∙
          ap (λ z. z ++ c.as_slice-2.result.now) (c.in_ok-locals.ensures.items ∙ c.as_slice.ensures) ∙
          ap (λ z. c.index-types-function.result.params ++ z) c.as_slice-2.ensures;
      no_label = c.new-labels.ensures;
    }

pub returns-clause-typed : goal.returns-clause-typed
returns-clause-typed c =
    IfOk-weaker c.check_body.result _ _ (λ x h. function_typed _ _ _ _ _ _ _ _ _ _ (parts c) h) c.check_body.ensures.ok

pub returns-clause-broken : goal.returns-clause-broken
returns-clause-broken c =
    errs_both c.check_body.result _ _ _ (λ e r w. function_broken _ _ _ _ _ _ _ _ _ _ (parts c) e r w) c.check_body.ensures.refused
    c.check_body.ensures.mistyped
