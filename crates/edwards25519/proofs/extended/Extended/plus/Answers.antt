use Rattle.std.proofs.Common.{◌≡◌, ◌*◌, ap, ◌∙◌}
use Rattle.field25519.specs.Modulo.{times}
use Rattle.edwards_model.specs.Curve.{d}
use Rattle.edwards_model.specs.Extended.{added}
use Rattle.edwards25519.proofs.Doubles.{times_residue, plus_same}
use Rattle.edwards25519.proofs.extended.Extended.plus.Goals as goal

pub returns : goal.returns
unfolding added
returns c =
    let q = c.args.self.now in
    let r = c.args.other.now in
    let third : c.times.result ≡ times q.t (2 * d) = c.times.ensures ∙ ap (times q.t) c.twice_d.ensures ∙ times_residue q.t (2 * d) in
    let fourth : c.times-d.result ≡ times (times 2 q.z) r.z = c.times-d.ensures ∙ ap (λ y. times y r.z) (c.plus-3.ensures ∙ plus_same q.z) in
    cc
