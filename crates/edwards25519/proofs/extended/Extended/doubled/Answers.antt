use Rattle.std.proofs.Common.{◌≡◌, ◌∙◌}
use Rattle.field25519.specs.Modulo.{times}
use Rattle.edwards_model.specs.Extended.{doubled}
use Rattle.edwards25519.proofs.Doubles.{plus_same}
use Rattle.edwards25519.proofs.extended.Extended.doubled.Goals as goal

pub returns : goal.returns
unfolding doubled
returns c =
    let third : c.plus-c.result ≡ times 2 c.squared-c.result = c.plus-c.ensures ∙ plus_same c.squared-c.result in
    cc
