use Rattle.std.proofs.Common.{◌≤◌, ◌^◌, arith}
use Rattle.std.proofs.Math.Pow.{pow_mono}
use Rattle.std.proofs.lemmas.Bool.Decides.{nat_tests}
use Rattle.wasm_typing.proofs.accesses.is_aligned.Goals as goal

pub returns-else-align-lt-BITS : goal.returns-else-align-lt-BITS
returns-else-align-lt-BITS c =
    let many : 32 ≤ c.args.align = omega (arith, c.if-align-lt-BITS.false) in
    let above : 2 ^ 32 ≤ 2 ^ c.args.align = pow_mono many in
    (λ t. absurd (grind (arith, nat_tests, many, t)), λ le. absurd (omega (arith, above, le, c.ranges.width.fits)))
