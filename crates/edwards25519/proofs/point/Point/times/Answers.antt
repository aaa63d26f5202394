use Rattle.std.proofs.Common.{◌≡◌, ◌+◌, ◌-◌, ◌*◌, ◌^◌, ◌<◌, ◌∙◌, length, get_or, drop, refl, sym, ap, arith}
use Rattle.std.proofs.lemmas.List.{get_or_read}
use Rattle.field25519.specs.Bytes.{number}
use Rattle.edwards_model.specs.Curve.{sum, neutral, multiple}
use Rattle.edwards_model.proofs.Decoding.{number_bytes, length_bytes}
use Rattle.edwards25519.proofs.Points.{point_is}
use Rattle.edwards25519.proofs.Multiples.{digit_more, first_bytes, next_byte}
use Rattle.edwards25519.proofs.point.Point.times.Goals as goal

pub loop-place-init : goal.loop-place-init
loop-place-init c =
    let len : length c.to_bytes-bytes.result ≡ 32 = ap length c.to_bytes-bytes.ensures ∙ length_bytes 32 _ in
    c.neutral-sum.ensures ∙ first_bytes c.to_bytes-bytes.result c.args.self.now len

pub loop-place-preserved : goal.loop-place-preserved
loop-place-preserved c =
    let a = c.args.self.now in
    let point = point_is _ _ c.self.view_is c.self.invariant in
    let bytes = c.to_bytes-bytes.result in
    let ps = c.multiples-multiples.result in
    let n = number (drop (32 - c.loop-place.place) bytes) in
    let h = c.from.result in
    let l = c.from-in-loop-place.result in
    let len : length bytes ≡ 32 = ap length c.to_bytes-bytes.ensures ∙ length_bytes 32 _ in
    let count = c.multiples-multiples.ensures.count in
    let high_small : h < 16 = omega (arith, c.from.ensures, c.loop-place-test.element_fits) in
    let low_small : l < 16 = omega (arith, c.from-in-loop-place.ensures) in
    let x = c.index-multiples-from.result in
    let y = c.index-multiples-from-in-loop-place.result in
    let high : get_or ps h x ≡ multiple h a =
    sym c.index-multiples-from.is ∙ get_or_read ps h _ (omega (arith, high_small, count)) c.index-multiples-from.is neutral ∙
    c.multiples-multiples.ensures.each h high_small in
    let low : get_or ps l y ≡ multiple l a =
    sym c.index-multiples-from-in-loop-place.is ∙ get_or_read ps l _ (omega (arith, low_small, count)) c.index-multiples-from-in-loop-place.is
    neutral ∙ c.multiples-multiples.ensures.each l low_small in
    let first : c.plus-high.result ≡ multiple (16 * n + h) a =
    c.plus-high.ensures ∙ ap (λ b. sum b (get_or ps h x)) c.times_16.ensures ∙ digit_more a point n h _ _ c.loop-place.invariant high in
    c.plus-sum.ensures ∙ ap (λ b. sum b (get_or ps l y)) c.times_16-in-loop-place.ensures
    ∙ digit_more a point (16 * n + h) l _ _ first low
    ∙ ap (λ k. multiple k a) (next_byte bytes c.loop-place.place _ h l len (omega arith) refl c.from.ensures c.from-in-loop-place.ensures)

pub returns : goal.returns
returns c =
    let a = c.args.self.now in
    let bytes = c.to_bytes-bytes.result in
    let all : c.loop-place.place ≡ 32 = omega arith in
    let small : c.copy.result < 256 ^ 32 = omega (arith, c.copy.ensures.below) in
    c.loop-place.invariant ∙ ap (λ k. multiple (number (drop (32 - k) bytes)) a) all ∙ ap (λ xs. multiple (number xs) a) c.to_bytes-bytes.ensures
    ∙ ap (λ k. multiple k a) (number_bytes 32 c.copy.result small ∙ c.copy.ensures.same)
