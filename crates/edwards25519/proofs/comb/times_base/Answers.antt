use Rattle.std.proofs.Common.{◌≡◌, ◌+◌, ◌*◌, ◌/◌, ◌^◌, ◌<◌, ◌∙◌, ap, ap₂, subst}
use Rattle.edwards_model.specs.Curve.{sum, base, multiple}
use Rattle.edwards_model.proofs.Group.{base_is}
use Rattle.edwards25519.specs.Comb.{tooth}
use Rattle.edwards25519.proofs.Combs.{comb_is}
use Rattle.edwards25519.proofs.Multiples.{digit_more}
use Rattle.edwards25519.proofs.comb.times_base.Goals as goal

pub returns : goal.returns
returns c =
    let n = c.args.number.now in
    let t1 = tooth 16 c.copy-first.result in
    let t2 = tooth 16 c.without_digit-second.result in
    let t3 = tooth 16 c.without_digit-third.result in
    let t4 = tooth 16 c.without_digit-fourth.result in
    let e1 : c.copy-first.result ≡ n = c.copy-first.ensures.same in
    let e2 : c.without_digit-second.result ≡ n / 16 = c.without_digit-second.ensures ∙ ap (λ k. k / 16) e1 in
    let e3 : c.without_digit-third.result ≡ n / 16 / 16 = c.without_digit-third.ensures ∙ ap (λ k. k / 16) e2 in
    let e4 : c.without_digit-fourth.result ≡ n / 16 / 16 / 16 = c.without_digit-fourth.ensures ∙ ap (λ k. k / 16) e3 in
    let small : n < 2 ^ 256 = subst (λ k. k < 2 ^ 256) e1 c.copy-first.ensures.below in
    let first : c.plus-sum.result ≡ multiple (16 * t4 + t3) base =
    c.plus-sum.ensures ∙ ap (λ b. sum b c.tooth-2.result) c.times_16.ensures ∙ digit_more base base_is t4 t3 _ _ c.tooth.ensures c.tooth-2.ensures in
    let second : c.plus-sum-2.result ≡ multiple (16 * (16 * t4 + t3) + t2) base =
    c.plus-sum-2.ensures ∙ ap (λ b. sum b c.tooth-3.result) c.times_16-2.ensures ∙ digit_more base base_is (16 * t4 + t3) t2 _ _ first c.tooth-3.ensures in
    c.plus.ensures ∙ ap (λ b. sum b c.tooth-4.result) c.times_16-3.ensures ∙ digit_more base base_is (16 * (16 * t4 + t3) + t2) t1 _ _ second c.tooth-4.ensures
    ∙ ap (λ k. multiple k base)
    (ap₂ (λ x y. 16 * (16 * (16 * tooth 16 x + tooth 16 y) + t2) + t1) e4 e3
    ∙ ap₂ (λ x y. 16 * (16 * (16 * tooth 16 (n / 16 / 16 / 16) + tooth 16 (n / 16 / 16)) + tooth 16 x) + tooth 16 y) e2 e1 ∙ comb_is n small)
