use Rattle.std.proofs.Common.{◌≡◌, ◌∙◌, sym}
use Rattle.edwards_model.specs.Curve.{multiple}
use Rattle.edwards_model.proofs.Group.{same_is, same_self}
use Rattle.edwards25519.proofs.Points.{point_is}
use Rattle.edwards25519.proofs.Multiples.{eight_times}
use Rattle.edwards25519.proofs.point.Point.has_small_order.Goals as goal

pub returns : goal.returns
returns c =
    let a = c.args.self.now in
    let eight : c.doubled-3.result ≡ multiple 8 a =
    eight_times a (point_is _ _ c.self.view_is c.self.invariant) _ _ _ c.doubled.ensures c.doubled-2.ensures c.doubled-3.ensures in (
      λ h. sym eight ∙ same_is _ _ (sym c.is.ensures ∙ h) ∙ c.neutral.ensures,
      λ h. c.is.ensures ∙ same_self _ _ (eight ∙ h ∙ sym c.neutral.ensures),
    )
