use Rattle.std.proofs.Common.{◌∙◌, ap₂}
use Rattle.edwards_model.specs.Curve.{sum}
use Rattle.edwards25519.proofs.Points.{added_itself, added_is}
use Rattle.edwards25519.proofs.point.Point.plus.Goals as goal

pub invariant_of-result : goal.invariant_of-result
invariant_of-result c = added_itself _ _ _ c.plus.ensures c.self.invariant c.other.invariant

pub returns : goal.returns
returns c = added_is _ _ _ c.plus.ensures c.self.invariant c.other.invariant ∙ ap₂ sum c.self.view_is c.other.view_is
