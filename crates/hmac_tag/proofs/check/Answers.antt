use Rattle.std.proofs.Common.{◌≡◌, ◌∙◌, ap, ap₂, sym, length, take, arith, slice_index_or, bit_xor, bit_or, nat_eq}
use Rattle.std.proofs.lemmas.Nat.{le_or_l, le_or_r}
use Rattle.std.proofs.lemmas.List.{take_more_same, take_all}
use Rattle.std.proofs.lemmas.Bool.{eqb-true}
use Rattle.std.specs.Int.Bits.{xor_self}
use Rattle.sha2.proofs.Facts256.{length-sha256}
use Rattle.hmac_tag.proofs.Differences.{same-xor}
use Rattle.hmac_tag.proofs.check.Goals as goal

pub loop-place-preserved : goal.loop-place-preserved
loop-place-preserved c =
    let right = c.tag-right.result in
    let claimed = c.args.claimed.now in
    let length-right : length right ≡ 32 = ap length c.tag-right.ensures ∙ length-sha256 _ in
    let i = c.loop-place.place in
    let d = c.loop-place.difference in
    let x = bit_xor (slice_index_or right i 0) (slice_index_or claimed i 0) in (
      (λ z. take_more_same right claimed i 0 (omega (arith, length-right, c.loop-place-test.true)) (omega (arith, c.told-claimed, c.loop-place-test.true))
          (c.loop-place.invariant.0 (omega (arith, le_or_l d x, z))) (same-xor _ _ (omega (arith, le_or_r d x, z)))),
      (λ e. ap₂ bit_or (c.loop-place.invariant.1 e)
          (ap (λ ys. bit_xor (slice_index_or ys i 0) (slice_index_or claimed i 0)) e ∙ xor_self (slice_index_or claimed i 0))),
    )

pub returns : goal.returns
returns c =
    let right = c.tag-right.result in
    let claimed = c.args.claimed.now in
    let length-right : length right ≡ 32 = ap length c.tag-right.ensures ∙ length-sha256 _ in
    let all : take c.loop-place.place right ≡ right = take_all _ right (omega (arith, length-right, c.loop-place-test.false)) in
    let all_claimed : take c.loop-place.place claimed ≡ claimed = take_all _ claimed (omega (arith, c.told-claimed, c.loop-place-test.false)) in (
      (λ z. sym all_claimed ∙ sym (c.loop-place.invariant.0 (eqb-true _ _ z)) ∙ all ∙ c.tag-right.ensures),
      (λ e. ap (λ d. nat_eq d 0) (c.loop-place.invariant.1 (c.tag-right.ensures ∙ sym e))),
    )
