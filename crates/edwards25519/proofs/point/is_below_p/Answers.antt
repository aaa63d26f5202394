use Rattle.std.proofs.Common.{◌≡◌, ◌==◌, nat_lt, arith}
use Rattle.std.proofs.lemmas.Bool.Decides.{nat_tests}
use Rattle.field25519.specs.Modulo.{p}
use Rattle.edwards25519.proofs.point.is_below_p.Goals as goal

pub returns : goal.returns
returns c =
    let is : (c.plus.result.carry == 0) ≡ nat_lt c.args.number.now p = grind (arith, nat_tests) in
    is
