use Rattle.std.proofs.Common.{◌≡◌, ◌∙◌, sym, subst}
use Rattle.edwards_model.specs.Curve.{neutral, multiple}
use Rattle.ed25519.proofs.is_of_small_order.Goals as goal

pub returns-in-None : goal.returns-in-None
returns-in-None c = (λ h. cc, λ w. absurd (let e = sym w.1 ∙ sym c.decoded.ensures ∙ c.in-None.is in cc))

pub returns-in-Some : goal.returns-in-Some
returns-in-Some c = (
  λ h. (c.in-Some.key, sym c.decoded.ensures ∙ c.in-Some.is, c.has_small_order.ensures.0 h),
  λ w.
      let e = sym w.1 ∙ sym c.decoded.ensures ∙ c.in-Some.is in
      let same : w.0 ≡ c.in-Some.key = cc in
      c.has_small_order.ensures.1 (subst (λ a. multiple 8 a ≡ neutral) same w.2),
)
