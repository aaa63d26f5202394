-- Doubles in extended coordinates are those of pairs, and so are tests.
use Rattle.std.proofs.Common.{◌≡◌, ◌≢◌, ℕ, ◌-◌, ◌%◌, List, [], ◌∷◌, refl, sym, ap, ap₂, ◌∙◌, subst, inl, inr, arith}
use Rattle.std.specs.Prelude.{nat_eq, ◌&&◌}
use Rattle.std.proofs.lemmas.Bool.Decides.{eqb_tells}
use Rattle.field25519.specs.Modulo.{p, plus, minus, times, power}
use Rattle.edwards_model.specs.Curve.{d, Affine, IsOnCurve, joint, sum, same}
use Rattle.edwards_model.specs.Extended.{doubled, doubled_from, same_point, Extended, extended, affine, Represents}
use Rattle.edwards_model.proofs.Ring.{Expr, Var, Num, Add, Sub, Mul, meaning, ring}
use Rattle.edwards_model.proofs.Closing.{minus_same, times_none, plus_none, both_none}
use Rattle.edwards_model.proofs.Units.{times_whole, times_one, power_inverse, cancel, nonzero_product}
use Rattle.edwards_model.proofs.Representing as R

abbrev ax : Expr
ax = Var 0

abbrev ay : Expr
ay = Var 1

abbrev z : Expr
z = Var 2

abbrev i : Expr
i = Var 6

abbrev j : Expr
j = Var 7

abbrev less : Expr → Expr
less a = Sub (Num 0) a

abbrev X : Expr
X = Mul ax z

abbrev Y : Expr
Y = Mul ay z

abbrev zz : Expr
zz = Mul z z

abbrev A : Expr
A = Mul X X

abbrev B : Expr
B = Mul Y Y

abbrev E : Expr
E = Sub (Add A B) (Mul (Add X Y) (Add X Y))

abbrev F : Expr
F = Add (Mul (Num 2) zz) (Sub A B)

abbrev G : Expr
G = Sub A B

abbrev H : Expr
H = Add A B

abbrev k : Expr
k = Mul (Num d) (Mul (Mul ax ax) (Mul ay ay))

abbrev n : Expr
n = Add (Mul ax ay) (Mul ax ay)

abbrev m : Expr
m = Add (Mul ay ay) (Mul ax ax)

abbrev I : Expr
I = Sub (Mul (Add (Num 1) k) i) (Num 1)

abbrev J : Expr
J = Sub (Mul (Sub (Num 1) k) j) (Num 1)

abbrev C : Expr
C = Sub (Sub (Mul ay ay) (Mul ax ax)) (Add (Num 1) k)

abbrev x_rest : Expr
x_rest = Add I (Mul i C)

abbrev y_rest : Expr
y_rest = Sub (Mul j C) J

abbrev t_rest : Expr
t_rest = Sub (Mul (Mul j (Sub (Sub (Num 1) k) C)) x_rest) y_rest

x_is : (e : List ℕ) → meaning e (Mul E F) ≡ meaning e (Add (Mul (Mul n i) (Mul F G)) (Mul (Mul F (Mul n zz)) x_rest))
x_is e = ring e (Mul E F) (Add (Mul (Mul n i) (Mul F G)) (Mul (Mul F (Mul n zz)) x_rest)) refl

y_is : (e : List ℕ) → meaning e (Mul G H) ≡ meaning e (Add (Mul (Mul m j) (Mul F G)) (Mul (Mul G (Mul m zz)) y_rest))
y_is e = ring e (Mul G H) (Add (Mul (Mul m j) (Mul F G)) (Mul (Mul G (Mul m zz)) y_rest)) refl

t_is : (e : List ℕ) → meaning e (Mul E H) ≡ meaning e (Add (Mul (Mul (Mul n i) (Mul m j)) (Mul F G)) (Mul (Mul (Mul n m) (Mul zz zz)) t_rest))
t_is e = ring e (Mul E H) (Add (Mul (Mul (Mul n i) (Mul m j)) (Mul F G)) (Mul (Mul (Mul n m) (Mul zz zz)) t_rest)) refl

f_is : (e : List ℕ) → meaning e F ≡ meaning e (Add (Mul zz (Sub (Num 1) k)) (Mul (less zz) C))
f_is e = ring e F (Add (Mul zz (Sub (Num 1) k)) (Mul (less zz) C)) refl

g_is : (e : List ℕ) → meaning e G ≡ meaning e (Add (Mul (Mul (Num (p - 1)) zz) (Add (Num 1) k)) (Mul (less zz) C))
g_is e = ring e G (Add (Mul (Mul (Num (p - 1)) zz) (Add (Num 1) k)) (Mul (less zz) C)) refl

difference_none : (x y : ℕ) → x ≡ 0 → y ≡ 0 → minus x y ≡ 0
difference_none x y h g = minus_same x y (h ∙ sym g)

minus_one_nonzero : (p - 1) % p ≢ 0
minus_one_nonzero h = omega (arith, h)

module _ (a : Affine) (k1 : ℕ) (h : IsOnCurve a) (nz : k1 % p ≢ 0) where
  abbrev e : List ℕ
  e = a.x ∷ a.y ∷ k1 ∷ a.x ∷ a.y ∷ k1 ∷ power (plus 1 (joint a a)) (p - 2) ∷ power (minus 1 (joint a a)) (p - 2) ∷ []

  i_zero : meaning e I ≡ 0
  i_zero = R.i_zero a a k1 k1 h h nz nz

  j_zero : meaning e J ≡ 0
  j_zero = R.j_zero a a k1 k1 h h nz nz

  c_zero : meaning e C ≡ 0
  c_zero = minus_same _ _ h.curve

  x_zero : meaning e x_rest ≡ 0
  x_zero = both_none _ _ i_zero (times_none (meaning e i) _ c_zero)

  y_zero : meaning e y_rest ≡ 0
  y_zero = difference_none _ _ (times_none (meaning e j) _ c_zero) j_zero

  t_zero : meaning e t_rest ≡ 0
  t_zero = difference_none _ _ (times_none _ _ x_zero) y_zero

  fn : meaning e F % p ≢ 0
  fn = subst (λ v. v % p ≢ 0) (sym (f_is e ∙ plus_none _ _ (times_none (meaning e (less zz)) _ c_zero) ∙ times_whole _ _))
      (nonzero_product _ _ (nonzero_product k1 k1 nz nz) (R.factor _ (meaning e R.W) _ (R.fn a a k1 k1 h h nz nz) (R.f_is e)))

  gn : meaning e G % p ≢ 0
  gn = subst (λ v. v % p ≢ 0) (sym (g_is e ∙ plus_none _ _ (times_none (meaning e (less zz)) _ c_zero) ∙ times_whole _ _))
      (nonzero_product _ _ (nonzero_product (p - 1) _ minus_one_nonzero (nonzero_product k1 k1 nz nz)) (R.factor _ (meaning e R.W) _ (R.gn a a k1 k1
      h h nz nz) (R.g_is e)))

  abbrev total : Extended
  total = doubled_from (meaning e A) (meaning e B) (meaning e (Mul (Num 2) zz)) (meaning e (Mul (Add X Y) (Add X Y)))

  total_represents : Represents total (sum a a)
  total_represents = record {
    z_nonzero = nonzero_product _ _ fn gn;
    point =
        R.same_fields total (extended (sum a a) total.z)
        (x_is e ∙ plus_none _ _ (times_none (meaning e (Mul F (Mul n zz))) _ x_zero) ∙ times_whole _ _)
        (y_is e ∙ plus_none _ _ (times_none (meaning e (Mul G (Mul m zz))) _ y_zero) ∙ times_whole _ _)
        refl
        (t_is e ∙ plus_none _ _ (times_none (meaning e (Mul (Mul n m) (Mul zz zz))) _ t_zero) ∙ times_whole _ _);
    curve = (R.total_represents a a k1 k1 h h nz nz).curve;
    x_residue = times_whole _ _;
    y_residue = times_whole _ _;
  }

  extended_doubled : Represents (doubled (extended a k1)) (sum a a)
  unfolding doubled
  extended_doubled = total_represents

pub doubled_represents : (q : Extended) (a : Affine) → Represents q a → Represents (doubled q) (sum a a)
doubled_represents q a h = subst (λ s. Represents s (sum a a)) (ap doubled (sym h.point)) (extended_doubled a q.z h.curve h.z_nonzero)

same_test : (x y u v : ℕ) → (x ≡ y → u ≡ v) → (u ≡ v → x ≡ y) → nat_eq x y ≡ nat_eq u v
same_test x y u v f g =
    elim (eqb_tells x y) [
      | inl s ↦ elim (eqb_tells u v) [ inl t ↦ s.0 ∙ sym t.0 | inr t ↦ absurd (t.1 (f s.1)) ]
      | inr s ↦ elim (eqb_tells u v) [ inl t ↦ absurd (s.1 (g t.1)) | inr t ↦ s.0 ∙ sym t.0 ]
    ]

gathered : (x z w : ℕ) → times (times x z) w ≡ times (times z w) x
gathered x z w = ring (x ∷ z ∷ w ∷ []) (Mul (Mul (Var 0) (Var 1)) (Var 2)) (Mul (Mul (Var 1) (Var 2)) (Var 0)) refl

gathered_other : (x z w : ℕ) → times (times x w) z ≡ times (times z w) x
gathered_other x z w = ring (x ∷ z ∷ w ∷ []) (Mul (Mul (Var 0) (Var 2)) (Var 1)) (Mul (Mul (Var 1) (Var 2)) (Var 0)) refl

cross_test : (x y z w : ℕ) → x % p ≡ x → y % p ≡ y → z % p ≢ 0 → w % p ≢ 0 → nat_eq (times (times x z) w) (times (times y w) z) ≡ nat_eq x y
cross_test x y z w hx hy hz hw =
    same_test _ _ x y
    (λ e. sym hx ∙ cancel (times z w) x y (nonzero_product z w hz hw) (sym (gathered x z w) ∙ e ∙ gathered_other y z w) ∙ hy)
    (λ e. gathered x z w ∙ ap (times (times z w)) e ∙ sym (gathered_other y z w))

pub test_represents : (q r : Extended) (a b : Affine) → Represents q a → Represents r b → same_point q r ≡ same a b
test_represents q r a b h g =
    ap₂ same_point h.point g.point
    ∙ ap₂ (λ s t. s && t)
    (cross_test a.x b.x q.z r.z h.x_residue g.x_residue h.z_nonzero g.z_nonzero)
    (cross_test a.y b.y q.z r.z h.y_residue g.y_residue h.z_nonzero g.z_nonzero)

divided : (y z v : ℕ) → times z v ≡ 1 → y % p ≡ y → times (times y z) v ≡ y
divided y z v h r =
    ring (y ∷ z ∷ v ∷ []) (Mul (Mul (Var 0) (Var 1)) (Var 2)) (Mul (Var 0) (Mul (Var 1) (Var 2))) refl ∙ times_one y (times z v) h ∙ r

-- what extended coordinates represent
pub affine_is : (q : Extended) (a : Affine) → Represents q a → affine q ≡ a
affine_is q a h =
    let one = power_inverse q.z h.z_nonzero in
    let make : ℕ → ℕ → Affine = λ x y. record { x = x; y = y } in
    ap affine h.point ∙ ap₂ make (divided a.x q.z _ one h.x_residue) (divided a.y q.z _ one h.y_residue)
