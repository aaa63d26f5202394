use Rattle.std.proofs.Common.{◌≡◌, ℕ, ◌%◌, ◌^◌, ◌∙◌, refl, ap, arith}
use Rattle.edwards_model.specs.Curve.{sum, base, multiple}
use Rattle.edwards25519.specs.Comb.{tooth}
use Rattle.edwards25519.proofs.Combs.{first_rest, first_sum, next_rest, next_sum}
use Rattle.edwards25519.proofs.comb.tooth.Goals as goal

low : (r w digit : ℕ) → w ≡ r % 2 ^ 64 → digit ≡ w % 16 → digit ≡ r % 16
low r w digit e f = omega (arith, e, f)

pub loop-window-init : goal.loop-window-init
loop-window-init c = record {
  rest_is = c.copy-rest.ensures.same ∙ first_rest c.args.number.now;
  sum_is = c.neutral-sum.ensures ∙ first_sum c.args.number.now;
}

pub loop-window-preserved : goal.loop-window-preserved
loop-window-preserved c =
    let n = c.args.number.now in
    let w = c.loop-window.window in
    record {
      rest_is = c.without_window-rest.ensures ∙ next_rest w n c.loop-window.rest c.loop-window.invariant.rest_is;
      sum_is =
          c.plus_prepared-sum.ensures ∙ ap (sum c.loop-window.sum) c.multiple_of_base.ensures
          ∙ next_sum w n c.loop-window.rest _ c.loop-window.sum c.loop-window.invariant.rest_is (low c.loop-window.rest c.word0.result _
          c.word0.ensures refl) c.loop-window.invariant.sum_is;
    }

pub returns : goal.returns
returns c = c.loop-window.invariant.sum_is ∙ ap (λ w. multiple (tooth w c.args.number.now) base) (omega arith)
