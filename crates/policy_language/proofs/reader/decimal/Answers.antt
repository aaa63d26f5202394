use Rattle.std.proofs.Common.{◌≤◌, sym, ◌∙◌, arith}
use Rattle.policy_language.proofs.Decimals.{fits, grows, digit_at, goes_on}
use Rattle.policy_language.proofs.reader.decimal.Goals as goal

pub overflow_mul-value : goal.overflow_mul-value
overflow_mul-value c =
    let f = fits c.loop-digit.digit-index c.loop-digit.value (omega arith) c.loop-digit.invariant.small in omega arith

pub overflow_add-value : goal.overflow_add-value
overflow_add-value c =
    let f = fits c.loop-digit.digit-index c.loop-digit.value (omega arith) c.loop-digit.invariant.small in
    let d = digit_at c.args.digits.now c.loop-digit.digit-index c.loop-digit-test.true c.requires.digits in
    omega arith

pub loop-digit-preserved : goal.loop-digit-preserved
loop-digit-preserved c =
    let ds = c.args.digits.now in
    let i = c.loop-digit.digit-index in
    let d = digit_at ds i c.loop-digit-test.true c.requires.digits in
    let few : c.from.result ≤ 9 = omega arith in
    record {
      small = grows i c.loop-digit.value c.from.result c.loop-digit.invariant.small few;
      so_far = rw c.from.ensures (sym (goes_on ds i c.loop-digit.value c.loop-digit-test.true) ∙ c.loop-digit.invariant.so_far);
    }
