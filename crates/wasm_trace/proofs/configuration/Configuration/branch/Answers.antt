use Rattle.std.proofs.Common.{◌-◌, ◌+◌, ap, ◌∙◌, arith}
use Rattle.wasm_trace.specs.declared.configuration.Configuration.{Configuration}
use Rattle.wasm_trace.specs.View.{layer_of}
use Rattle.wasm_trace.proofs.Leaving.{frame_broken, label_missing, label_landed, loop_landed}
use Rattle.wasm_trace.proofs.Outward.{breaks_label}
use Rattle.wasm_trace.proofs.configuration.Configuration.branch.Goals as goal

pub returns-in-Frame-clause-goes : goal.returns-in-Frame-clause-goes
returns-in-Frame-clause-goes g c = λ records.
    frame_broken c.args.self.now c.loop-i.self c.pop.new.self.items c.in-Some.level _ _ _ _ c.args.k (c.args.k - c.loop-i._i) records c.loop-i.invariant.1
    c.in-Some.ensures.items (ap layer_of c.in-Frame.is)

pub returns-in-Frame-level-clause-goes : goal.returns-in-Frame-level-clause-goes
returns-in-Frame-level-clause-goes g c = λ records.
    frame_broken c.args.self.now c.loop-i.self c.pop-2.new.self.items c.in-Some-pop.level _ _ _ _ c.args.k (c.args.k - c.loop-i._i) records c.loop-i.invariant.1
    c.in-Some-pop.ensures.items (ap layer_of c.in-Frame-level.is)

pub returns-then-not-branch-clause-goes : goal.returns-then-not-branch-clause-goes
returns-then-not-branch-clause-goes g c = λ records.
    label_missing c.args.self.now c.loop-i.self c.pop-2.new.self.items c.in-Some-pop.level _ _ _ _ c.args.k (c.args.k - c.loop-i._i) c.in-Block.before.items
    c.keep.new.stack.items c.in_ok-keep-in-Block.field-0 records c.loop-i.invariant.0 c.loop-i.invariant.1 (omega (arith, c.loop-i-test.false))
    c.in-Some-pop.ensures.items (ap layer_of c.in-Block.is) c.if-not-branch.true c.in_ok-keep-in-Block.ensures

pub returns-in-Block-clause-goes : goal.returns-in-Block-clause-goes
returns-in-Block-clause-goes g c = λ records.
    label_landed c.args.self.now c.loop-i.self c.pop-2.new.self.items c.in-Some-pop.level _ _ _ c.args.k (c.args.k - c.loop-i._i) c.in-Block.before.items
    c.keep.new.stack.items c.in_ok-keep-in-Block.field-0 records c.loop-i.invariant.0 c.loop-i.invariant.1 (omega (arith, c.loop-i-test.false))
    c.in-Some-pop.ensures.items (ap layer_of c.in-Block.is) c.if-not-branch.false c.in_ok-keep-in-Block.ensures

pub returns-clause-goes : goal.returns-clause-goes
returns-clause-goes g c = λ records.
    loop_landed c.args.self.now c.loop-i.self c.pop-2.new.self.items c.in-Some-pop.level _ _ c.args.k (c.args.k - c.loop-i._i) c.in-Loop.before.items records
    c.loop-i.invariant.0 c.loop-i.invariant.1 (omega (arith, c.loop-i-test.false)) c.in-Some-pop.ensures.items (ap layer_of c.in-Loop.is)

pub loop-i-preserved : goal.loop-i-preserved
loop-i-preserved g c = (
  ap (λ (m : Configuration). record m { levels = c.pop.new.self }) c.loop-i.invariant.0,
  λ f s loc w. c.loop-i.invariant.1 f s loc w ∙
      breaks_label c.loop-i.self.levels.items c.pop.new.self.items c.in-Some.level c.in_default.not-Frame c.in-Some.ensures.items f s loc w
      (c.args.k - c.loop-i._i) (c.args.k - (c.loop-i._i + 1)) (omega (arith, c.loop-i-test.true)),
)
