use Rattle.std.proofs.Common.{◌∙◌, ap₂}
use Rattle.edwards_model.specs.Curve.{sum}
use Rattle.edwards25519.proofs.Points.{doubled_itself, doubled_is}
use Rattle.edwards25519.proofs.point.Point.doubled.Goals as goal

pub invariant_of-result : goal.invariant_of-result
invariant_of-result c = doubled_itself _ _ c.doubled.ensures c.self.invariant

pub returns : goal.returns
returns c = doubled_is _ _ c.doubled.ensures c.self.invariant ∙ ap₂ sum c.self.view_is c.self.view_is
