use Rattle.std.proofs.Common.{refl}
use Rattle.wasm_ast.specs.declared.types.ValueType.{ValueType}
use Rattle.wasm_ast.specs.declared.types.ValueType.TheVariants.{I32}
use Rattle.wasm_meaning.specs.Values.{value, zeros}
use Rattle.wasm_trace.proofs.Pushing.{pushed_next}
use Rattle.wasm_trace.proofs.configuration.add_zeros.Goals as goal

pub loop-value_type-preserved : goal.loop-value_type-preserved
loop-value_type-preserved c =
    pushed_next (λ (t : ValueType). value t 0) zeros (λ _ _. refl) c.args.types.now c.loop-value_type.value_type-index I32 c.loop-value_type.locals.items
    c.push.new.self.items c.zero.result _ c.loop-value_type-test.true c.in_ok-push.ensures.items c.zero.ensures c.loop-value_type.invariant
