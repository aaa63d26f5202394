use Rattle.std.proofs.Common.{◌∙◌, ap₂}
use Rattle.std.specs.Cmp.Lexicographic.{pointwise}
use Rattle.wasm_ast.specs.contracts.types.ValueTypePartialEq.TheImpl.{eq-value}
use Rattle.wasm_instance.specs.FuncTypes.{equal_by, same_by}
use Rattle.wasm_instance.proofs.types.same_func_type.Goals as goal

pub returns-then-eq-clause-value : goal.returns-then-eq-clause-value
returns-then-eq-clause-value c =
    let params = c.eq-then-eq.ensures ∙ ap₂ (pointwise eq-value.it) c.as_slice.ensures c.as_slice-then-eq.ensures in
    let equal = equal_by c.args.a.now c.args.b.now c.eq.result c.eq-then-eq.result c.eq.ensures params c.if-eq.true in
    same_by c.args.a.now c.args.b.now c.eq-then-eq.result equal.0 equal.1

pub returns-then-eq-clause-equal : goal.returns-then-eq-clause-equal
returns-then-eq-clause-equal c =
    let params = c.eq-then-eq.ensures ∙ ap₂ (pointwise eq-value.it) c.as_slice.ensures c.as_slice-then-eq.ensures in
    equal_by c.args.a.now c.args.b.now c.eq.result c.eq-then-eq.result c.eq.ensures params c.if-eq.true
