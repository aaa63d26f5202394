-- Extended coordinates keep representing pairs.
use Rattle.std.proofs.Common.{◌≡◌, ℕ, subst, sym, ap, ◌∙◌}
use Rattle.field25519.specs.Modulo.{times}
use Rattle.edwards_model.specs.Curve.{Affine, IsPoint, sum}
use Rattle.edwards_model.specs.Extended.{Extended, Represents, affine, added, doubled}
use Rattle.edwards_model.proofs.Representing.{added_represents, same_fields}
use Rattle.edwards_model.proofs.Doubling.{doubled_represents, affine_is}
use Rattle.edwards_model.proofs.Rooting.{affine_represents}
use Rattle.edwards_model.proofs.Group.{of_represents}

-- coordinates of a point are those of what they represent
pub itself : (q : Extended) (a : Affine) → Represents q a → Represents q (affine q)
itself q a h = subst (Represents q) (sym (affine_is q a h)) h

pub added_itself : (q r s : Extended) → s ≡ added q r → Represents q (affine q) → Represents r (affine r) → Represents s (affine s)
added_itself q r s e h g = subst (λ t. Represents t (affine t)) (sym e) (itself _ _ (added_represents q r _ _ h g))

pub added_is : (q r s : Extended) → s ≡ added q r → Represents q (affine q) → Represents r (affine r) → affine s ≡ sum (affine q) (affine r)
added_is q r s e h g = ap affine e ∙ affine_is _ _ (added_represents q r _ _ h g)

pub doubled_itself : (q s : Extended) → s ≡ doubled q → Represents q (affine q) → Represents s (affine s)
doubled_itself q s e h = subst (λ t. Represents t (affine t)) (sym e) (itself _ _ (doubled_represents q _ h))

pub doubled_is : (q s : Extended) → s ≡ doubled q → Represents q (affine q) → affine s ≡ sum (affine q) (affine q)
doubled_is q s e h = ap affine e ∙ affine_is _ _ (doubled_represents q _ h)

pub point_is : (q : Extended) (a : Affine) → affine q ≡ a → Represents q (affine q) → IsPoint a
point_is q a e h = subst IsPoint e (of_represents q (affine q) h)

-- coordinates with 1 as z
module _ (s : Extended) (x y : ℕ) (h : IsPoint (record { x = x; y = y })) (ex : s.x ≡ x) (ey : s.y ≡ y) (ez : s.z ≡ 1) (et : s.t ≡ times x y) where
  represented : Represents s (record { x = x; y = y })
  represented =
      subst (λ t. Represents t (record { x = x; y = y })) (sym (same_fields s (record { x = x; y = y; z = 1; t = times x y }) ex ey ez et))
      (affine_represents x y h.x_residue h.y_residue h.curve)

  pub made_itself : Represents s (affine s)
  made_itself = itself s (record { x = x; y = y }) represented

  pub made_is : affine s ≡ record { x = x; y = y }
  made_is = affine_is s (record { x = x; y = y }) represented
