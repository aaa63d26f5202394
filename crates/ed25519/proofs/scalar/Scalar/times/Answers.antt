use Rattle.std.proofs.Common.{◌≡◌, ◌+◌, ◌%◌, ◌∙◌, ap, sym, arith}
use Rattle.edwards_model.specs.Curve.{order}
use Rattle.ed25519.proofs.Scalars.{first_step, chosen_step, chosen_below, halved_small}
use Rattle.ed25519.proofs.scalar.Scalar.times.Goals as goal

pub loop-init : goal.loop-init
loop-init c =
    let multiple : c.plus-multiple.result ≡ (c.args.self.now + 0) % order = c.plus-multiple.ensures.sum ∙ ap (λ z. (c.args.self.now + z) % order)
    c.zero.ensures in
    record {
      small = c.copy-bits.ensures.below;
      below = omega (arith, c.zero-sum.ensures);
      kept =
          rw (c.zero-sum.ensures, c.copy-bits.ensures.same)
          (first_step c.args.self.now c.args.number.now c.plus-multiple.result multiple);
    }

pub loop-preserved : goal.loop-preserved
loop-preserved c =
    let bits = c.loop.bits in
    let double = c.plus-multiple-in-loop in
    let odd = c.is_odd.result in
    record {
      small = rw c.halved-bits.ensures (halved_small c.loop.counter bits (omega arith) c.loop.invariant.small);
      below = chosen_below odd c.plus-more.result c.loop.sum c.chosen-sum.result c.plus-more.ensures.below c.loop.invariant.below c.chosen-sum.ensures;
      kept = rw c.halved-bits.ensures (
          chosen_step odd c.loop.sum c.loop.multiple bits double.result c.plus-more.result c.chosen-sum.result (sym c.is_odd.ensures)
          double.ensures.sum c.plus-more.ensures.sum c.chosen-sum.ensures
          ∙ c.loop.invariant.kept);
    }
