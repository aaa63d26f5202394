use Rattle.std.proofs.Common.{◌≡◌, ◌∙◌, refl}
use Rattle.field25519.specs.Modulo.{times}
use Rattle.edwards_model.proofs.Group.{neutral_is}
use Rattle.edwards25519.proofs.Points.{made_itself, made_is}
use Rattle.edwards25519.proofs.point.Point.neutral.Goals as goal

none : 0 ≡ times 0 1
unfolding times
none = refl

pub invariant_of-result : goal.invariant_of-result
invariant_of-result c = made_itself _ 0 1 neutral_is c.zero.ensures c.one.ensures c.one-2.ensures (c.zero-2.ensures ∙ none)

pub returns : goal.returns
returns c = made_is _ 0 1 neutral_is c.zero.ensures c.one.ensures c.one-2.ensures (c.zero-2.ensures ∙ none)
