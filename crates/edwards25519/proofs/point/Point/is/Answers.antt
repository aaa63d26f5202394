use Rattle.std.proofs.Common.{◌∙◌, ap₂}
use Rattle.edwards_model.specs.Curve.{same}
use Rattle.edwards_model.proofs.Doubling.{test_represents}
use Rattle.edwards25519.proofs.point.Point.is.Goals as goal

pub returns : goal.returns
returns c = c.is.ensures ∙ test_represents _ _ _ _ c.self.invariant c.other.invariant ∙ ap₂ same c.self.view_is c.other.view_is
