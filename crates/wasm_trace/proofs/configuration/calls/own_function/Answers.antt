use Rattle.std.proofs.Common.{◌≡◌, ◌<◌, Some, sym, ap, ◌∙◌, refl, subst, length, get_or}
use Rattle.std.specs.Prelude.{slice_get}
use Rattle.std.proofs.lemmas.Option.{slice_get_read, slice_get_past}
use Rattle.wasm_ast.specs.declared.module.Module.{Module}
use Rattle.wasm_trace.proofs.Calling.{own_is, own_none}
use Rattle.wasm_trace.proofs.configuration.calls.own_function.Goals as goal

pub bounds-types-function : goal.bounds-types-function
bounds-types-function c =
    let m = c.args.valid.now in
    let functions = c.as_slice.ensures.same ∙ ap (λ (m : Module). m.functions) c.module-module.ensures.same in
    let found : slice_get m.functions c.args.at ≡ Some c.in-Some.function.now =
    ap (λ fs. slice_get fs c.args.at) (sym functions) ∙
    slice_get_read c.as_slice.result.now _ c.args.at c.in-Some.function.now refl c.in-Some.ensures.lookup.3.0 c.in-Some.ensures.lookup.1 in
    subst (λ ts. c.in-Some.function.now.type_index < length ts) (sym (c.as_slice-types.ensures ∙ ap (λ (m : Module). m.types) c.module-module.ensures.same))
    (c.module-module.ensures.valid.functions c.args.at c.in-Some.function.now found).type

pub returns-in-None : goal.returns-in-None
returns-in-None c =
    let m = c.args.valid.now in
    let functions = c.as_slice.ensures.same ∙ ap (λ (m : Module). m.functions) c.module-module.ensures.same in
    own_none m c.args.at (ap (λ fs. slice_get fs c.args.at) (sym functions) ∙ slice_get_past c.as_slice.result.now c.args.at c.in-None.ensures.lookup.3)

pub returns-in-Some : goal.returns-in-Some
returns-in-Some c =
    let m = c.args.valid.now in
    let functions = c.as_slice.ensures.same ∙ ap (λ (m : Module). m.functions) c.module-module.ensures.same in
    let found : slice_get m.functions c.args.at ≡ Some c.in-Some.function.now =
    ap (λ fs. slice_get fs c.args.at) (sym functions) ∙
    slice_get_read c.as_slice.result.now _ c.args.at c.in-Some.function.now refl c.in-Some.ensures.lookup.3.0 c.in-Some.ensures.lookup.1 in
    own_is m c.args.at c.in-Some.function.now c.index-types-function.result c.module-module.ensures.valid found
    (c.index-types-function.is ∙
    ap (λ ts. get_or ts c.in-Some.function.now.type_index c.index-types-function.result)
    (c.as_slice-types.ensures ∙ ap (λ (m : Module). m.types) c.module-module.ensures.same))
