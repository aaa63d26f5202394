use Rattle.std.proofs.Common.{◌≡◌, ◌∙◌}
use Rattle.field25519.specs.Modulo.{times}
use Rattle.edwards25519.specs.Prepared.{added_prepared}
use Rattle.edwards25519.proofs.Doubles.{plus_same}
use Rattle.edwards25519.proofs.extended.Extended.plus_prepared.Goals as goal

pub returns : goal.returns
unfolding added_prepared
returns c =
    let fourth : c.plus-d.result ≡ times 2 c.args.self.now.z = c.plus-d.ensures ∙ plus_same c.args.self.now.z in
    cc
