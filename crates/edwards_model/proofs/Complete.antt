-- The z of a sum is not zero.
use Rattle.std.proofs.Common.{◌≡◌, ◌≢◌, ℕ, ◌+◌, ◌-◌, ◌*◌, ◌%◌, List, [], ◌∷◌, refl, sym, ap, ◌∙◌, arith}
use Rattle.std.proofs.Math.Nat.{mod-mod}
use Rattle.field25519.specs.Modulo.{p, plus, minus, times}
use Rattle.edwards_model.specs.Curve.{d}
use Rattle.edwards_model.specs.Extended.{Extended}
use Rattle.edwards_model.proofs.Homogeneous.{OnCurve}
use Rattle.edwards_model.proofs.Ring.{Expr, Var, Num, Add, Sub, Mul, meaning, ring}
use Rattle.edwards_model.proofs.Closing.{plus_whole, minus_same, times_none, plus_none, both_none}
use Rattle.field25519.proofs.Powers.{times_comm}
use Rattle.edwards_model.proofs.Units.{times_whole, times_zero, zero_factor, nonzero_product, no_square}

abbrev root : ℕ
root = 19681161376707505956807079304988542015446066515923890162744021073123829784752

abbrev x1 : Expr
x1 = Var 0

abbrev y1 : Expr
y1 = Var 1

abbrev z1 : Expr
z1 = Var 2

abbrev t1 : Expr
t1 = Var 3

abbrev x2 : Expr
x2 = Var 4

abbrev y2 : Expr
y2 = Var 5

abbrev z2 : Expr
z2 = Var 6

abbrev t2 : Expr
t2 = Var 7

abbrev dd : Expr
dd = Num d

abbrev square : Expr → Expr
square a = Mul a a

abbrev less : Expr → Expr
less a = Sub (Num 0) a

abbrev curve : Expr → Expr → Expr → Expr → Expr
curve x y z t = Sub (Sub (Mul y y) (Mul x x)) (Add (Mul z z) (Mul dd (Mul t t)))

abbrev cross : Expr → Expr → Expr → Expr → Expr
cross x y z t = Sub (Mul x y) (Mul z t)

-- d t1 t2 less z1 z2, or their sum
abbrev joint : Expr → Expr
joint s = Sub (Mul dd (Mul t1 t2)) (Mul s (Mul z1 z2))

abbrev left : Expr → Expr → Expr
left j s = square (Mul z2 (Add (Mul j x1) (Mul s y1)))

abbrev right : Expr → Expr
right j = Mul dd (square (Mul t1 (Add (Mul j x2) y2)))

abbrev outcome : Expr → Expr → Expr
outcome j s =
    Add (right j)
    (Add (Mul (square z2) (curve x1 y1 z1 t1)) (Add (Mul (Mul (Num 2) (Mul (Mul j s) (square z2))) (cross x1 y1 z1 t1))
    (Add (Mul (less (Mul dd (square t1))) (curve x2 y2 z2 t2)) (Add (Mul (less (Mul (Num 2) (Mul j (Mul dd (square t1))))) (cross x2 y2 z2 t2))
    (Mul (less (Add (Add (Mul dd (Mul t1 t2)) (Mul s (Mul z1 z2))) (Mul (Num 2) (Mul j (Mul t1 z2))))) (joint s))))))

-- the two roots of -1, and the two of 1
identity_1 : (e : List ℕ) → meaning e (left (Num root) (Num 1)) ≡ meaning e (outcome (Num root) (Num 1))
identity_1 e = ring e (left (Num root) (Num 1)) (outcome (Num root) (Num 1)) refl

identity_2 : (e : List ℕ) → meaning e (left (Num (p - root)) (Num 1)) ≡ meaning e (outcome (Num (p - root)) (Num 1))
identity_2 e = ring e (left (Num (p - root)) (Num 1)) (outcome (Num (p - root)) (Num 1)) refl

identity_3 : (e : List ℕ) → meaning e (left (Num root) (Num (p - 1))) ≡ meaning e (outcome (Num root) (Num (p - 1)))
identity_3 e = ring e (left (Num root) (Num (p - 1))) (outcome (Num root) (Num (p - 1))) refl

identity_4 : (e : List ℕ) → meaning e (left (Num (p - root)) (Num (p - 1))) ≡ meaning e (outcome (Num (p - root)) (Num (p - 1)))
identity_4 e = ring e (left (Num (p - root)) (Num (p - 1))) (outcome (Num (p - root)) (Num (p - 1))) refl

-- the sum of both linear forms
halves : (e : List ℕ) → meaning e (Add (Add (Mul (Num root) x2) y2) (Add (Mul (Num (p - root)) x2) y2)) ≡ meaning e (Mul (Num 2) y2)
halves e = ring e (Add (Add (Mul (Num root) x2) y2) (Add (Mul (Num (p - root)) x2) y2)) (Mul (Num 2) y2) refl

plus_zeros : (x y : ℕ) → x % p ≡ 0 → y % p ≡ 0 → plus x y ≡ 0
unfolding plus
plus_zeros x y h k = omega (arith, h, k)

pub minus_whole : (x y : ℕ) → minus x y % p ≡ minus x y
unfolding minus
minus_whole x y = mod-mod (x + (p - y % p)) p

pub minus_none : (x y : ℕ) → minus x y % p ≡ 0 → x % p ≡ y % p
unfolding minus
minus_none x y h = omega (arith, h)

module _ (q r : Extended) (h : OnCurve q) (k : OnCurve r) (hz : q.z % p ≢ 0) (kz : r.z % p ≢ 0) where
  abbrev e : List ℕ
  e = q.x ∷ q.y ∷ q.z ∷ q.t ∷ r.x ∷ r.y ∷ r.z ∷ r.t ∷ []

  -- for each root j of -1: t1 (j x2 + y2) is zero
  linear : (j s : Expr) → meaning e (joint s) ≡ 0 → meaning e (left j s) ≡ meaning e (outcome j s) → meaning e (Mul t1 (Add (Mul j x2) y2)) % p ≡ 0
  linear j s n i =
      no_square (meaning e (Mul z2 (Add (Mul j x1) (Mul s y1)))) (meaning e (Mul t1 (Add (Mul j x2) y2)))
      (i
      ∙ plus_none (meaning e (right j)) _
      (both_none _ _ (times_none (meaning e (square z2)) _ (minus_same _ _ h.curve))
      (both_none _ _ (times_none (meaning e (Mul (Num 2) (Mul (Mul j s) (square z2)))) _ (minus_same _ _ h.product))
      (both_none _ _ (times_none (meaning e (less (Mul dd (square t1)))) _ (minus_same _ _ k.curve))
      (both_none _ _ (times_none (meaning e (less (Mul (Num 2) (Mul j (Mul dd (square t1)))))) _ (minus_same _ _ k.product))
      (times_none (meaning e (less (Add (Add (Mul dd (Mul t1 t2)) (Mul s (Mul z1 z2))) (Mul (Num 2) (Mul j (Mul t1 z2)))))) _ n)))))
      ∙ times_whole _ _)

  impossible : (s : ℕ) → s % p ≢ 0 → times d (times q.t r.t) ≡ times s (times q.z r.z) →
      meaning e (left (Num root) (Num s)) ≡ meaning e (outcome (Num root) (Num s)) →
      meaning e (left (Num (p - root)) (Num s)) ≡ meaning e (outcome (Num (p - root)) (Num s)) → ⊥
  impossible s sn same i j =
      let joined = minus_same _ _ same in
      let product_nonzero : times s (times q.z r.z) % p ≢ 0 = nonzero_product s (times q.z r.z) sn (nonzero_product q.z r.z hz kz) in
      let t1n : q.t % p ≢ 0 = λ z. product_nonzero (ap (λ n. n % p) (sym same ∙ ap (times d) (times_comm q.t r.t ∙ times_zero r.t q.t z)) ∙ ap (λ n.
      n % p) (times_zero d 0 refl)) in
      let t2n : r.t % p ≢ 0 = λ z. product_nonzero (ap (λ n. n % p) (sym same ∙ ap (times d) (times_zero q.t r.t z)) ∙ ap (λ n. n % p) (times_zero d 0 refl)) in
      let a = zero_factor q.t _ (sym (times_whole _ _) ∙ linear (Num root) (Num s) joined i) t1n in
      let b = zero_factor q.t _ (sym (times_whole _ _) ∙ linear (Num (p - root)) (Num s) joined j) t1n in
      let twice : times 2 r.y ≡ 0 = sym (halves e) ∙ plus_zeros _ _ a b in
      let y_zero : r.y % p ≡ 0 = zero_factor 2 r.y twice (λ z. omega (arith, z)) in
      let z_zero : times r.z r.t ≡ 0 = sym k.product ∙ times_zero r.x r.y y_zero in
      t2n (zero_factor r.z r.t z_zero kz)

  not_one : times d (times q.t r.t) ≡ times 1 (times q.z r.z) → ⊥
  not_one same = impossible 1 (λ z. omega (arith, z)) same (identity_1 e) (identity_2 e)

  not_less_one : times d (times q.t r.t) ≡ times (p - 1) (times q.z r.z) → ⊥
  not_less_one same = impossible (p - 1) (λ z. omega (arith, z)) same (identity_3 e) (identity_4 e)

  -- 5.1.4's F and G are not zero
  pub f_nonzero : minus (times (times 2 q.z) r.z) (times (times q.t (2 * d)) r.t) % p ≢ 0
  f_nonzero z =
      let same : times 2 (minus (times 1 (times q.z r.z)) (times d (times q.t r.t))) ≡ 0 =
      ring e (Mul (Num 2) (Sub (Mul (Num 1) (Mul z1 z2)) (Mul dd (Mul t1 t2)))) (Sub (Mul (Mul (Num 2) z1) z2) (Mul (Mul t1 (Num (2 * d))) t2)) refl
      ∙ sym (minus_whole _ _) ∙ z in
      not_one (sym (times_whole _ _) ∙ sym (minus_none _ _ (zero_factor 2 _ same (λ z. omega (arith, z)))) ∙ times_whole _ _)

  pub g_nonzero : plus (times (times 2 q.z) r.z) (times (times q.t (2 * d)) r.t) % p ≢ 0
  g_nonzero z =
      let same : times 2 (minus (times d (times q.t r.t)) (times (p - 1) (times q.z r.z))) ≡ 0 =
      ring e (Mul (Num 2) (Sub (Mul dd (Mul t1 t2)) (Mul (Num (p - 1)) (Mul z1 z2)))) (Add (Mul (Mul (Num 2) z1) z2) (Mul (Mul t1 (Num (2 * d))) t2)) refl
      ∙ sym (plus_whole _ _) ∙ z in
      not_less_one (sym (times_whole _ _) ∙ minus_none _ _ (zero_factor 2 _ same (λ z. omega (arith, z))) ∙ times_whole _ _)
