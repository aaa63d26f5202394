use Rattle.std.proofs.Common.{◌<◌, ◌+◌, ◌++◌, ◌∙◌, ap, map, drop, length, arith}
use Rattle.std.proofs.lemmas.Result.{err_from_is_err_and}
use Rattle.wasm_ast.specs.declared.module.Func.{Func}
use Rattle.wasm_typing.specs.Broken.{FunctionType}
use Rattle.wasm_typing.proofs.Lists.{at_none, item_in, one_more, each_item, mapped_next}
use Rattle.wasm_typing.proofs.Modules.{known_types}
use Rattle.wasm_typing.proofs.imports.function_indices.Goals as goal

pub returns-then-function-len-clause-broken : goal.returns-then-function-len-clause-broken
returns-then-function-len-clause-broken c =
    let items = c.as_slice-function-items in
    let function = c.function-item.result in
    FunctionType c.loop-function.function-index function
    (item_in items.result.now c.args.given.now.functions c.loop-function.function-index function items.ensures.same c.loop-function-test.true
    c.function-item.is) (at_none c.args.given.now.types function.type_index (omega (arith, c.len.ensures)))

pub loop-function-preserved : goal.loop-function-preserved
loop-function-preserved c =
    let items = c.as_slice-function-items in
    let function = c.function-item.result in
    let known : function.type_index < length c.args.given.now.types = omega (arith, c.len.ensures) in
    record {
      indices = ap (λ is. is ++ map (λ (f : Func). f.type_index) (drop (c.loop-function.function-index + 1) c.args.given.now.functions))
          c.in_ok-push.ensures.items ∙
          mapped_next (λ (f : Func). f.type_index) items.result.now c.args.given.now.functions c.loop-function.function-index function
          c.loop-function.indices.items items.ensures.same c.loop-function-test.true c.function-item.is ∙ c.loop-function.invariant.indices;
      known = one_more (λ (f : Func). f.type_index < length c.args.given.now.types) items.result.now c.args.given.now.functions c.loop-function.function-index
          function items.ensures.same c.loop-function-test.true c.function-item.is known c.loop-function.invariant.known;
    }

pub returns-clause-known : goal.returns-clause-known
returns-clause-known c =
    let items = c.as_slice-function-items in
    known_types c.args.given.now c.requires
    (each_item (λ (f : Func). f.type_index < length c.args.given.now.types) items.result.now c.args.given.now.functions c.loop-function.function-index
    items.ensures.same c.loop-function-test.false c.loop-function.invariant.known)

pub returns-in_err-indices-clause-broken : goal.returns-in_err-indices-clause-broken
returns-in_err-indices-clause-broken c =
    let p = err_from_is_err_and c.from_residual.result c.from_residual.ensures.1 in
    rw (p.1, p.2, c.in_err-indices.ensures.fault) tt

pub loop-function-init : goal.loop-function-init
loop-function-init c = record {
  indices = ap (λ is. is ++ map (λ (f : Func). f.type_index) c.args.given.now.functions) c.in_ok-indices.ensures.indices;
  known = λ k lt f e. absurd (omega (arith, lt));
}
