-- A sum with a prepared point is the sum.
use Rattle.std.proofs.Common.{◌≡◌, ℕ, ◌*◌, List, [], ◌∷◌, refl, ap, ap₂, ◌∙◌}
use Rattle.field25519.specs.Modulo.{plus, minus, times}
use Rattle.edwards_model.specs.Curve.{d, Affine}
use Rattle.edwards_model.specs.Curve as C
use Rattle.edwards_model.specs.Extended.{Extended, Represents, affine, added, added_from, extended}
use Rattle.edwards_model.proofs.Ring.{Var, Num, Add, Sub, Mul, ring}
use Rattle.edwards_model.proofs.Group.{at_one}
use Rattle.edwards_model.proofs.Doubling.{affine_is}
use Rattle.edwards25519.specs.Prepared.{Prepares, added_prepared}
use Rattle.edwards25519.proofs.Points.{itself, added_itself, added_is}

module _ (q : Extended) (a : Affine) (difference sum product : ℕ) (h : Prepares difference sum product a) where
  abbrev e : List ℕ
  e = a.x ∷ a.y ∷ q.t ∷ q.z ∷ []

  added-prepared : added_prepared q difference sum product ≡ added q (extended a 1)
  unfolding added_prepared added
  added-prepared =
      let x = Var 0 in
      let y = Var 1 in
      let d1 : difference ≡ minus (times a.y 1) (times a.x 1) = h.difference_is ∙ ring e (Sub y x) (Sub (Mul y (Num 1)) (Mul x (Num 1))) refl in
      let s1 : sum ≡ plus (times a.y 1) (times a.x 1) = h.sum_is ∙ ring e (Add y x) (Add (Mul y (Num 1)) (Mul x (Num 1))) refl in
      let t1 : times q.t product ≡ times (times q.t (2 * d)) (times (times a.x a.y) 1) =
      ap (times q.t) h.product_is ∙ ring e (Mul (Var 2) (Mul (Num (2 * d)) (Mul x y))) (Mul (Mul (Var 2) (Num (2 * d))) (Mul (Mul x y) (Num 1))) refl in
      let z1 : times 2 q.z ≡ times (times 2 q.z) 1 = ring e (Mul (Num 2) (Var 3)) (Mul (Mul (Num 2) (Var 3)) (Num 1)) refl in
      ap₂ (λ m s. added_from (times (minus q.y q.x) m) (times (plus q.y q.x) s) (times q.t product) (times 2 q.z)) d1 s1
      ∙ ap₂ (added_from (times (minus q.y q.x) (minus (times a.y 1) (times a.x 1))) (times (plus q.y q.x) (plus (times a.y 1) (times a.x 1)))) t1 z1

  module _ (s : Extended) (same : s ≡ added_prepared q difference sum product) (g : Represents q (affine q)) where
    one : Represents (extended a 1) a
    one = at_one a h.point

    pub prepared_itself : Represents s (affine s)
    prepared_itself = added_itself q (extended a 1) s (same ∙ added-prepared) g (itself (extended a 1) a one)

    pub prepared_is : affine s ≡ C.sum (affine q) a
    prepared_is = added_is q (extended a 1) s (same ∙ added-prepared) g (itself (extended a 1) a one) ∙ ap (C.sum (affine q)) (affine_is (extended a 1) a one)
