-- Roots, and the points that are decoded by them.
use Rattle.std.proofs.Common.{◌≡◌, ◌≢◌, ℕ, ◌-◌, ◌*◌, ◌/◌, ◌%◌, ◌^◌, ◌<◌, Bool, true, false, List, [], ◌∷◌, Option, Some, None, refl, sym, ap, ap₂}
use Rattle.std.proofs.Common.{◌∙◌, subst, arith}
use Rattle.std.specs.Prelude.{nat_eq, nat_lt, ◌&&◌, if◌then◌else◌}
use Rattle.std.proofs.lemmas.Bool.{eqb-true}
use Rattle.std.proofs.lemmas.Bool.Decides.{nat_tests}
use Rattle.std.proofs.Math.Nat.{mod-eq_of_lt}
use Rattle.field25519.specs.Bytes.{number}
use Rattle.field25519.specs.Modulo.{p, plus, minus, times}
use Rattle.field25519.proofs.Exponents.{imaginary_is}
use Rattle.edwards_model.specs.Curve.{d, Affine, IsOnCurve, IsPoint}
use Rattle.edwards_model.specs.Encoding.{imaginary, candidate, root, with_root, on_row, decoded, IsRootOf}
use Rattle.edwards_model.specs.Extended.{extended, Represents}
use Rattle.edwards_model.proofs.Ring.{Var, Num, Add, Sub, Mul, meaning, ring}
use Rattle.edwards_model.proofs.Closing.{plus_whole, minus_same, times_none, plus_none}
use Rattle.edwards_model.proofs.Units.{times_whole, times_one}
use Rattle.edwards_model.proofs.Complete.{minus_whole}
use Rattle.edwards_model.proofs.Representing.{same_fields}

pub one_nonzero : 1 % p ≢ 0
one_nonzero h = omega (arith, h)

abbrev pub IsRoot : ℕ → ℕ → Option ℕ → Type 0
IsRoot u v None = Unit {0}
IsRoot u v (Some x) = (times v (times x x) ≡ u % p) × (x % p ≡ x)

pub imaginary_squared : times imaginary imaginary ≡ p - 1
unfolding times
imaginary_squared = ap₂ (λ x y. x * y % p) imaginary_is imaginary_is ∙ refl

turned : (u v x w : ℕ) → times v (times x x) ≡ minus 0 u → times w w ≡ p - 1 → times v (times (times x w) (times x w)) ≡ u % p
turned u v x w h g =
    ring (u ∷ v ∷ x ∷ w ∷ []) (Mul (Var 1) (Mul (Mul (Var 2) (Var 3)) (Mul (Var 2) (Var 3)))) (Mul (Mul (Var 1) (Mul (Var 2) (Var 2))) (Mul (Var 3)
    (Var 3))) refl
    ∙ ap₂ times h g
    ∙ ring (u ∷ []) (Mul (Sub (Num 0) (Var 0)) (Num (p - 1))) (Mul (Var 0) (Num 1)) refl
    ∙ times_one u 1 refl

root_cases : (u v x : ℕ) (b c : Bool) → nat_eq (times v (times x x)) u ≡ b → nat_eq (times v (times x x)) (minus 0 u) ≡ c → x % p ≡ x →
    IsRoot u v (if b then Some x else (if c then Some (times x imaginary) else None))
root_cases u v x true c hb hc r = (sym (times_whole _ _) ∙ ap (λ y. y % p) (eqb-true _ _ hb), r)
root_cases u v x false true hb hc r = (turned u v x imaginary (eqb-true _ _ hc) imaginary_squared, times_whole _ _)
root_cases u v x false false hb hc r = tt

pub root_is : (u v : ℕ) → IsRoot u v (root u v)
unfolding root
root_is u v = root_cases u v (candidate u v) _ _ refl refl (times_whole _ _)

curve_ring : (e : List ℕ) →
    meaning e (Sub (Mul (Var 1) (Var 1)) (Mul (Var 0) (Var 0)))
    ≡ meaning e (Add (Add (Num 1) (Mul (Num d) (Mul (Mul (Var 0) (Var 0)) (Mul (Var 1) (Var 1)))))
    (Mul (Num (p - 1)) (Sub (Mul (Add (Mul (Num d) (Mul (Var 1) (Var 1))) (Num 1)) (Mul (Var 0) (Var 0))) (Sub (Mul (Var 1) (Var 1)) (Num 1)))))
curve_ring e =
    ring e (Sub (Mul (Var 1) (Var 1)) (Mul (Var 0) (Var 0)))
    (Add (Add (Num 1) (Mul (Num d) (Mul (Mul (Var 0) (Var 0)) (Mul (Var 1) (Var 1)))))
    (Mul (Num (p - 1)) (Sub (Mul (Add (Mul (Num d) (Mul (Var 1) (Var 1))) (Num 1)) (Mul (Var 0) (Var 0))) (Sub (Mul (Var 1) (Var 1)) (Num 1))))) refl

root_on_curve : (x y : ℕ) → times (plus (times d (times y y)) 1) (times x x) ≡ minus (times y y) 1 → IsOnCurve (record { x = x; y = y })
root_on_curve x y h = record { curve = curve_ring (x ∷ y ∷ []) ∙ plus_none _ _ (times_none (p - 1) _ (minus_same _ _ h)) ∙ plus_whole _ _ }

-- a point in extended coordinates, with 1 as z
pub affine_represents : (x y : ℕ) → x % p ≡ x → y % p ≡ y → IsOnCurve (record { x = x; y = y }) → Represents (record {
  x = x;
  y = y;
  z = 1;
  t = times
      x y;
}) (record { x = x; y = y })
affine_represents x y hx hy c = record {
  z_nonzero = one_nonzero;
  point = same_fields (record { x = x; y = y; z = 1; t = times x y }) (extended (record { x = x; y = y }) 1) (sym (times_one x 1 refl ∙ hx)) (sym
      (times_one y 1 refl ∙ hy)) refl (sym (times_one (times x y) 1 refl ∙ times_whole x y));
  curve = c;
  x_residue = hx;
  y_residue = hy;
}

pub negated : (x : ℕ) → times (minus 0 x) (minus 0 x) ≡ times x x
negated x = ring (x ∷ []) (Mul (Sub (Num 0) (Var 0)) (Sub (Num 0) (Var 0))) (Mul (Var 0) (Var 0)) refl

pub signed_point : (x y : ℕ) (c : Bool) → x % p ≡ x → y % p ≡ y → IsRootOf y x → IsPoint (record { x = if c then x else minus 0 x; y = y })
signed_point x y true hx hy h = record { curve = root_on_curve x y h; x_residue = hx; y_residue = hy }
signed_point x y false hx hy h = record {
  curve = root_on_curve (minus 0 x) y (ap (times (plus (times d (times y y)) 1)) (negated x) ∙ h);
  x_residue = minus_whole 0 x;
  y_residue = hy;
}

abbrev IsPointIf : Option Affine → Type 0
IsPointIf None = Unit {0}
IsPointIf (Some a) = IsPoint a

sign_cases : (x y : ℕ) (b c : Bool) → x % p ≡ x → y % p ≡ y → IsRootOf y x →
    IsPointIf (if b then None else Some (record { x = if c then x else minus 0 x; y = y }))
sign_cases x y true c hx hy h = tt
sign_cases x y false c hx hy h = signed_point x y c hx hy h

with_root_is : (y sign : ℕ) (r : Option ℕ) → y % p ≡ y → IsRoot (minus (times y y) 1) (plus (times d (times y y)) 1) r → IsPointIf (with_root y sign r)
with_root_is y sign None hy h = tt
with_root_is y sign (Some x) hy h = sign_cases x y (nat_eq x 0 && nat_eq sign 1) (nat_eq (x % 2) sign) h.1 hy (h.0 ∙ minus_whole _ _)

row_cases : (y sign : ℕ) (b : Bool) → nat_lt y p ≡ b → IsPointIf (if b then on_row y sign else None)
row_cases y sign true h =
    with_root_is y sign (root (minus (times y y) 1) (plus (times d (times y y)) 1)) (mod-eq_of_lt (below y h)) (root_is _ _)
  where
    below : (y : ℕ) → nat_lt y p ≡ true → y < p
    below y h = grind (arith, nat_tests, h)
row_cases y sign false h = tt

decoded_cases : (bytes : List ℕ) → IsPointIf (decoded bytes)
unfolding decoded
decoded_cases bytes = row_cases (number bytes % 2 ^ 255) (number bytes / 2 ^ 255) _ refl

-- what is decoded is a point
pub decoded_is_point : (bytes : List ℕ) (a : Affine) → decoded bytes ≡ Some a → IsPoint a
decoded_is_point bytes a h = subst IsPointIf h (decoded_cases bytes)
