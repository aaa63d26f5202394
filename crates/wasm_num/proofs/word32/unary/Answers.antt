use Rattle.wasm_num.specs.Laws.Digits.{zeros_before-digits, zeros_before-reverse-digits, sum-digits}
use Rattle.wasm_num.proofs.word32.unary.Goals as goal

pub returns-in-Clz : goal.returns-in-Clz
returns-in-Clz c = rw c.in-Clz.is (zeros_before-digits 32 c.args.a c.ranges.a.fits)

pub returns-in-Ctz : goal.returns-in-Ctz
returns-in-Ctz c = rw c.in-Ctz.is (zeros_before-reverse-digits 32 c.args.a)

pub returns-in-Popcnt : goal.returns-in-Popcnt
returns-in-Popcnt c = rw c.in-Popcnt.is (sum-digits 32 c.args.a c.ranges.a.fits)
