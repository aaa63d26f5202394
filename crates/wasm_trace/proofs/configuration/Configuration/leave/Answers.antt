use Rattle.std.proofs.Common.{ap, ◌∙◌}
use Rattle.wasm_trace.specs.declared.configuration.Configuration.{Configuration}
use Rattle.wasm_trace.specs.View.{layer_of}
use Rattle.wasm_trace.proofs.Leaving.{result_missing, returned}
use Rattle.wasm_trace.proofs.Outward.{leaves_label}
use Rattle.wasm_trace.proofs.configuration.Configuration.leave.Goals as goal

pub returns-then-not-branch-clause-goes : goal.returns-then-not-branch-clause-goes
returns-then-not-branch-clause-goes g c = λ records.
    result_missing c.args.self.now c.loop-level.self c.pop.new.self.items c.in-Some.level _ _ _ _ c.in-Frame.before.items c.keep.new.stack.items
    c.in_ok-keep.field-0 records c.loop-level.invariant.0 c.loop-level.invariant.1 c.in-Some.ensures.items (ap layer_of c.in-Frame.is) c.if-not-branch.true
    c.in_ok-keep.ensures

pub returns-in-Frame-clause-goes : goal.returns-in-Frame-clause-goes
returns-in-Frame-clause-goes g c = λ records.
    returned c.args.self.now c.loop-level.self c.pop.new.self.items c.in-Some.level _ _ _ c.in-Frame.before.items c.keep.new.stack.items c.in_ok-keep.field-0
    records c.loop-level.invariant.0 c.loop-level.invariant.1 c.in-Some.ensures.items (ap layer_of c.in-Frame.is) c.if-not-branch.false c.in_ok-keep.ensures

pub loop-level-preserved : goal.loop-level-preserved
loop-level-preserved g c = (
  ap (λ (m : Configuration). record m { levels = c.pop.new.self }) c.loop-level.invariant.0,
  λ f s loc w. c.loop-level.invariant.1 f s loc w ∙
      leaves_label c.loop-level.self.levels.items c.pop.new.self.items c.in-Some.level c.in_default-level.not-Frame c.in-Some.ensures.items f s loc w,
)

pub loop-level-preserved-in_default-level : goal.loop-level-preserved-in_default-level
loop-level-preserved-in_default-level g c = (
  ap (λ (m : Configuration). record m { levels = c.pop.new.self }) c.loop-level.invariant.0,
  λ f s loc w. c.loop-level.invariant.1 f s loc w ∙
      leaves_label c.loop-level.self.levels.items c.pop.new.self.items c.in-Some.level c.in_default-level.not-Frame c.in-Some.ensures.items f s loc w,
)
