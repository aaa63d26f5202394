-- The number in a signature is determined by what stands before it.
use Rattle.std.proofs.Common.{◌≡◌, ℕ, ◌<◌, true, Option, Some, None, sym, ◌∙◌, arith}
use Rattle.std.specs.Prelude.{nat_lt}
use Rattle.std.proofs.lemmas.Bool.Decides.{nat_tests}
use Rattle.field25519.specs.Bytes.{number}
use Rattle.edwards_model.specs.Curve.{Affine, base, order, multiple}
use Rattle.edwards_model.specs.Encoding.{decoded}
use Rattle.edwards_model.proofs.Group.{same_is}
use Rattle.edwards_model.proofs.Ring.{and_left, and_right}
use Rattle.edwards_model.proofs.Ordering.{once}
use Rattle.ed25519.specs.Signing.{challenge, holds}
use Rattle.ed25519_laws.specs.Laws.{SignatureIsUnique}
use Rattle.ed25519_laws.proofs.Equations.{parts}

test_below : (s : ℕ) → nat_lt s order ≡ true → s < order
test_below s h = grind (arith, nat_tests, h)

same_number : (a r : Option Affine) (s t k : ℕ) → holds a r s k ≡ true → holds a r t k ≡ true → s ≡ t
same_number None r s t k h g = cc
same_number (Some a) None s t k h g = cc
same_number (Some a) (Some r) s t k h g =
    let es : multiple s base ≡ _ = same_is _ _ (and_right (nat_lt s order) _ h) in
    let et : multiple t base ≡ _ = same_is _ _ (and_right (nat_lt t order) _ g) in
    once s t (test_below s (and_left _ _ h)) (test_below t (and_left _ _ g)) (es ∙ sym et)

pub signature_is_unique : SignatureIsUnique
signature_is_unique public message r s1 s2 l h g =
    same_number (decoded public) (decoded r) (number s1) (number s2) (challenge r public message)
    (sym (parts public message r s1 l) ∙ h) (sym (parts public message r s2 l) ∙ g)
