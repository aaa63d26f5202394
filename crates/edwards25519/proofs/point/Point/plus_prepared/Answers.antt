use Rattle.std.proofs.Common.{◌∙◌, ap₂}
use Rattle.edwards_model.specs.Curve.{sum}
use Rattle.edwards25519.proofs.Preparing.{prepared_itself, prepared_is}
use Rattle.edwards25519.proofs.point.Point.plus_prepared.Goals as goal

pub invariant_of-result : goal.invariant_of-result
invariant_of-result c = prepared_itself _ _ _ _ _ c.other.invariant _ c.plus_prepared.ensures c.self.invariant

pub returns : goal.returns
returns c = prepared_is _ _ _ _ _ c.other.invariant _ c.plus_prepared.ensures c.self.invariant ∙ ap₂ sum c.self.view_is c.other.view_is
