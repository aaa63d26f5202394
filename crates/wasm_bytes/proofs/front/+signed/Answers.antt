use Rattle.std.proofs.Common.{◌-◌, ap, ◌∙◌, w64, arith}
use Rattle.std.proofs.lemmas.Int.{to_z_pos}
use Rattle.std.proofs.lemmas.Result.{err_from_is_err_and}
use Rattle.wasm_bytes.specs.Reading.{signed_at}
use Rattle.wasm_bytes.proofs.Fronts.{in_front, signed_last, signed_large, signed_below, signed_low, signed_long, signed_ended, signed_joined}
use Rattle.wasm_bytes.proofs.Fronts.{as_negative, as_joined, joined_low, joined_high}
use Rattle.wasm_bytes.proofs.front.+signed.Goals as goal

pub signed-returns-then-first-half-clause-read : goal.signed-returns-then-first-half-clause-read
signed-returns-then-first-half-clause-read t c =
    let bytes = c.args.bytes.now in
    let at = in_front bytes c.from-first.result c.in-len1-up.len_at_least c.from-first.ensures in
    let value = to_z_pos w64 c.from-first.result (omega arith) in
    ap (signed_at c.args.half) at ∙ rw value (signed_last c.args.half c.from-first.result _ c.if-first-lt64.true c.if-first-half.true)

pub signed-returns-then-first-lt64-clause-read : goal.signed-returns-then-first-lt64-clause-read
signed-returns-then-first-lt64-clause-read t c =
    let bytes = c.args.bytes.now in
    let at = in_front bytes c.from-first.result c.in-len1-up.len_at_least c.from-first.ensures in
    ap (signed_at c.args.half) at ∙ signed_large c.args.half c.from-first.result _ c.if-first-lt64.true c.if-first-half.false

pub signed-returns-then-first-half-ge128-clause-read : goal.signed-returns-then-first-half-ge128-clause-read
signed-returns-then-first-half-ge128-clause-read t c =
    let bytes = c.args.bytes.now in
    let first = c.from-first.result in
    let at = in_front bytes first c.in-len1-up.len_at_least c.from-first.ensures in
    let value = as_negative first c.if-first-lt64.false c.if-first-lt128.true in
    ap (signed_at c.args.half) at ∙ rw value (signed_below c.args.half first _ c.if-first-lt64.false c.if-first-lt128.true c.if-first-half-ge128.true)

pub signed-returns-then-first-lt128-clause-read : goal.signed-returns-then-first-lt128-clause-read
signed-returns-then-first-lt128-clause-read t c =
    let bytes = c.args.bytes.now in
    let first = c.from-first.result in
    let at = in_front bytes first c.in-len1-up.len_at_least c.from-first.ensures in
    ap (signed_at c.args.half) at ∙ signed_low c.args.half first _ c.if-first-lt64.false c.if-first-lt128.true c.if-first-half-ge128.false

pub signed-returns-clause-read : goal.signed-returns-clause-read
signed-returns-clause-read t c =
    let bytes = c.args.bytes.now in
    let at = in_front bytes c.from-first.result c.in-len1-up.len_at_least c.from-first.ensures in
    rw at c.signed_on.ensures.read

pub signed_on-returns-then-half-le64-clause-read : goal.signed_on-returns-then-half-le64-clause-read
signed_on-returns-then-half-le64-clause-read t c = signed_long c.args.half c.args.first c.args.rest.now c.requires.low c.if-half-le64.true

pub signed_on-returns-in_err-high-clause-read : goal.signed_on-returns-in_err-high-clause-read
signed_on-returns-in_err-high-clause-read t c =
    let p = err_from_is_err_and c.from_residual.result c.from_residual.ensures.1 in
    rw p.1 (signed_ended c.args.half c.args.first c.args.rest.now c.requires.low c.if-half-le64.false c.in_err-high.ensures.read)

pub signed_on-returns-clause-read : goal.signed_on-returns-clause-read
signed_on-returns-clause-read t c =
    let high = c.in_ok-high.high in
    let value = as_joined (c.args.first - 128) high c.args.half (omega arith) c.requires.half c.in_ok-high.ensures.low c.in_ok-high.ensures.high in
    rw value (signed_joined c.args.half c.args.first c.args.rest.now high c.in_ok-high.rest.now c.requires.low c.if-half-le64.false c.in_ok-high.ensures.read)

pub signed_on-returns-clause-low : goal.signed_on-returns-clause-low
signed_on-returns-clause-low t c =
    let high = c.in_ok-high.high in
    let value = as_joined (c.args.first - 128) high c.args.half (omega arith) c.requires.half c.in_ok-high.ensures.low c.in_ok-high.ensures.high in
    rw value (joined_low (c.args.first - 128) high c.args.half (omega arith) c.in_ok-high.ensures.low)

pub signed_on-returns-clause-high : goal.signed_on-returns-clause-high
signed_on-returns-clause-high t c =
    let high = c.in_ok-high.high in
    let value = as_joined (c.args.first - 128) high c.args.half (omega arith) c.requires.half c.in_ok-high.ensures.low c.in_ok-high.ensures.high in
    rw value (joined_high (c.args.first - 128) high c.args.half (omega arith) c.in_ok-high.ensures.high)
