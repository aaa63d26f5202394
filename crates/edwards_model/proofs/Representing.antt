-- Sums in extended coordinates are those of pairs.
use Rattle.std.proofs.Common.{◌≡◌, ◌≢◌, ℕ, ◌-◌, ◌*◌, ◌%◌, List, [], ◌∷◌, refl, sym, ap, ap₂, ◌∙◌, subst, arith}
use Rattle.field25519.specs.Modulo.{p, plus, minus, times, power}
use Rattle.edwards_model.specs.Curve.{d, Affine, IsOnCurve, IsPoint, joint, sum}
use Rattle.edwards_model.specs.Extended.{added, added_from, Extended, extended, Represents}
use Rattle.edwards_model.specs.Laws.{SumHasDenominators}
use Rattle.edwards_model.proofs.Homogeneous.{OnCurve}
use Rattle.edwards_model.proofs.Ring.{Expr, Var, Num, Add, Sub, Mul, meaning, ring}
use Rattle.edwards_model.proofs.Closing.{plus_whole, minus_same, times_none, plus_none, both_none, added_is_on_curve}
use Rattle.edwards_model.proofs.Units.{times_whole, times_zero, power_inverse, cancel, nonzero_product}
use Rattle.edwards_model.proofs.Complete.{minus_whole, f_nonzero, g_nonzero}

abbrev pub ax : Expr
ax = Var 0

abbrev pub ay : Expr
ay = Var 1

abbrev pub z : Expr
z = Var 2

abbrev pub bx : Expr
bx = Var 3

abbrev pub by : Expr
by = Var 4

abbrev pub w : Expr
w = Var 5

abbrev pub i : Expr
i = Var 6

abbrev pub j : Expr
j = Var 7

abbrev less : Expr → Expr
less a = Sub (Num 0) a

-- ---- a pair and its extended coordinates
abbrev pair_curve : Expr
pair_curve = Sub (Sub (Mul ay ay) (Mul ax ax)) (Add (Num 1) (Mul (Num d) (Mul (Mul ax ax) (Mul ay ay))))

abbrev pub X : Expr
X = Mul ax z

abbrev pub Y : Expr
Y = Mul ay z

abbrev pub T : Expr
T = Mul (Mul ax ay) z

extended_curve : (e : List ℕ) → meaning e (Sub (Mul Y Y) (Mul X X)) ≡ meaning e (Add (Add (Mul z z) (Mul (Num d) (Mul T T))) (Mul (Mul z z) pair_curve))
extended_curve e = ring e (Sub (Mul Y Y) (Mul X X)) (Add (Add (Mul z z) (Mul (Num d) (Mul T T))) (Mul (Mul z z) pair_curve)) refl

extended_product : (e : List ℕ) → meaning e (Mul X Y) ≡ meaning e (Mul z T)
extended_product e = ring e (Mul X Y) (Mul z T) refl

pub on_curve : (a : Affine) (k : ℕ) → IsOnCurve a → OnCurve (extended a k)
on_curve a k h =
    let e : List ℕ = a.x ∷ a.y ∷ k ∷ [] in
    record {
      curve = extended_curve e ∙ plus_none _ _ (times_none (times k k) _ (minus_same _ _ h.curve)) ∙ plus_whole _ _;
      product = extended_product e;
    }

back_left : (e : List ℕ) → meaning e (Mul (Mul z z) (Sub (Mul ay ay) (Mul ax ax))) ≡ meaning e (Sub (Mul Y Y) (Mul X X))
back_left e = ring e (Mul (Mul z z) (Sub (Mul ay ay) (Mul ax ax))) (Sub (Mul Y Y) (Mul X X)) refl

back_right : (e : List ℕ) → meaning e (Add (Mul z z) (Mul (Num d) (Mul T T))) ≡ meaning e (Mul (Mul z z) (Add (Num 1) (Mul (Num d) (Mul (Mul ax ax)
    (Mul ay ay)))))
back_right e = ring e (Add (Mul z z) (Mul (Num d) (Mul T T))) (Mul (Mul z z) (Add (Num 1) (Mul (Num d) (Mul (Mul ax ax) (Mul ay ay))))) refl

pub pair_on_curve : (a : Affine) (k : ℕ) → k % p ≢ 0 → OnCurve (extended a k) → IsOnCurve a
pair_on_curve a k n h =
    let e : List ℕ = a.x ∷ a.y ∷ k ∷ [] in
    record {
      curve =
          sym (minus_whole _ _)
          ∙ cancel (times k k) _ _ (nonzero_product k k n n) (back_left e ∙ h.curve ∙ back_right e)
          ∙ plus_whole _ _;
    }

-- ---- the sum
abbrev pub U : Expr
U = Mul bx w

abbrev pub V : Expr
V = Mul by w

abbrev pub S : Expr
S = Mul (Mul bx by) w

abbrev pub A : Expr
A = Mul (Sub Y X) (Sub V U)

abbrev pub B : Expr
B = Mul (Add Y X) (Add V U)

abbrev pub C : Expr
C = Mul (Mul T (Num (2 * d))) S

abbrev pub D : Expr
D = Mul (Mul (Num 2) z) w

abbrev pub E : Expr
E = Sub B A

abbrev pub F : Expr
F = Sub D C

abbrev pub G : Expr
G = Add D C

abbrev pub H : Expr
H = Add B A

abbrev pub k : Expr
k = Mul (Num d) (Mul (Mul ax bx) (Mul ay by))

abbrev pub n : Expr
n = Add (Mul ax by) (Mul bx ay)

abbrev pub m : Expr
m = Add (Mul ay by) (Mul ax bx)

-- i and j are the inverses of 1 + k and 1 - k
abbrev pub I : Expr
I = Sub (Mul (Add (Num 1) k) i) (Num 1)

abbrev pub J : Expr
J = Sub (Mul (Sub (Num 1) k) j) (Num 1)

abbrev pub W : Expr
W = Mul (Mul (Num 2) z) w

pub g_is : (e : List ℕ) → meaning e G ≡ meaning e (Mul W (Add (Num 1) k))
g_is e = ring e G (Mul W (Add (Num 1) k)) refl

pub f_is : (e : List ℕ) → meaning e F ≡ meaning e (Mul W (Sub (Num 1) k))
f_is e = ring e F (Mul W (Sub (Num 1) k)) refl

x_is : (e : List ℕ) → meaning e (Mul E F) ≡ meaning e (Add (Mul (Mul n i) (Mul F G)) (Mul (less (Mul (Mul F W) n)) I))
x_is e = ring e (Mul E F) (Add (Mul (Mul n i) (Mul F G)) (Mul (less (Mul (Mul F W) n)) I)) refl

y_is : (e : List ℕ) → meaning e (Mul G H) ≡ meaning e (Add (Mul (Mul m j) (Mul F G)) (Mul (less (Mul (Mul G W) m)) J))
y_is e = ring e (Mul G H) (Add (Mul (Mul m j) (Mul F G)) (Mul (less (Mul (Mul G W) m)) J)) refl

t_is : (e : List ℕ) → meaning e (Mul E H) ≡
    meaning e (Add (Mul (Mul (Mul n i) (Mul m j)) (Mul F G)) (Mul (less (Mul (Mul W W) (Mul n m))) (Add (Mul (Mul (Sub (Num 1) k) j) I) J)))
t_is e = ring e (Mul E H) (Add (Mul (Mul (Mul n i) (Mul m j)) (Mul F G)) (Mul (less (Mul (Mul W W) (Mul n m))) (Add (Mul (Mul (Sub (Num 1) k) j) I) J))) refl

-- a factor of what is not zero is not zero
pub factor : (g u v : ℕ) → g % p ≢ 0 → g ≡ times u v → v % p ≢ 0
factor g u v h e zv = h (ap (λ y. y % p) (e ∙ times_zero u v zv))

pub same_fields : (q r : Extended) → q.x ≡ r.x → q.y ≡ r.y → q.z ≡ r.z → q.t ≡ r.t → q ≡ r
same_fields q r hx hy hz ht =
    let make : ℕ → ℕ → ℕ → ℕ → Extended = λ x y z t. record { x = x; y = y; z = z; t = t } in
    ap (λ x. make x q.y q.z q.t) hx ∙ ap (λ y. make r.x y q.z q.t) hy ∙ ap (λ z. make r.x r.y z q.t) hz ∙ ap (λ t. make r.x r.y r.z t) ht

module _ (a b : Affine) (k1 k2 : ℕ) (ha : IsOnCurve a) (hb : IsOnCurve b) (na : k1 % p ≢ 0) (nb : k2 % p ≢ 0) where
  abbrev pub e : List ℕ
  e = a.x ∷ a.y ∷ k1 ∷ b.x ∷ b.y ∷ k2 ∷ power (plus 1 (joint a b)) (p - 2) ∷ power (minus 1 (joint a b)) (p - 2) ∷ []

  pub fn : meaning e F % p ≢ 0
  fn = f_nonzero (extended a k1) (extended b k2) (on_curve a k1 ha) (on_curve b k2 hb) na nb

  pub gn : meaning e G % p ≢ 0
  gn = g_nonzero (extended a k1) (extended b k2) (on_curve a k1 ha) (on_curve b k2 hb) na nb

  pub i_zero : meaning e I ≡ 0
  i_zero = minus_same _ _ (power_inverse (plus 1 (joint a b)) (factor (meaning e G) (meaning e W) _ gn (g_is e)))

  pub j_zero : meaning e J ≡ 0
  j_zero = minus_same _ _ (power_inverse (minus 1 (joint a b)) (factor (meaning e F) (meaning e W) _ fn (f_is e)))

  pub has_denominators : SumHasDenominators a b
  has_denominators = record {
    x = factor (meaning e G) (meaning e W) _ gn (g_is e);
    y = factor (meaning e F) (meaning e W) _ fn (f_is e);
  }

  abbrev pub total : Extended
  total = added_from (meaning e A) (meaning e B) (meaning e C) (meaning e D)

  total_is : total ≡ extended (sum a b) total.z
  total_is =
      same_fields total (extended (sum a b) total.z)
      (x_is e ∙ plus_none _ _ (times_none (meaning e (less (Mul (Mul F W) n))) _ i_zero) ∙ times_whole _ _)
      (y_is e ∙ plus_none _ _ (times_none (meaning e (less (Mul (Mul G W) m))) _ j_zero) ∙ times_whole _ _)
      refl
      (t_is e ∙ plus_none _ _ (times_none (meaning e (less (Mul (Mul W W) (Mul n m)))) _ (both_none _ _ (times_none (meaning e (Mul (Sub (Num 1) k)
      j)) _ i_zero) j_zero)) ∙ times_whole _ _)

  closed : OnCurve total
  unfolding added
  closed = added_is_on_curve (extended a k1) (extended b k2) (on_curve a k1 ha) (on_curve b k2 hb)

  pub total_represents : Represents total (sum a b)
  total_represents =
      let zn : total.z % p ≢ 0 = nonzero_product _ _ fn gn in
      record {
        z_nonzero = zn;
        point = total_is;
        curve = pair_on_curve (sum a b) total.z zn (subst OnCurve total_is closed);
        x_residue = times_whole _ _;
        y_residue = times_whole _ _;
      }

  extended_sum : Represents (added (extended a k1) (extended b k2)) (sum a b)
  unfolding added
  extended_sum = total_represents

pub added_represents : (q r : Extended) (a b : Affine) → Represents q a → Represents r b → Represents (added q r) (sum a b)
added_represents q r a b h g =
    subst (λ s. Represents s (sum a b)) (ap₂ added (sym h.point) (sym g.point))
    (extended_sum a b q.z r.z h.curve g.curve h.z_nonzero g.z_nonzero)

-- with 1 as z of both
pub sum_has_denominators : (a b : Affine) → IsPoint a → IsPoint b → SumHasDenominators a b
sum_has_denominators a b h g = has_denominators a b 1 1 h.curve g.curve (λ z. omega (arith, z)) (λ z. omega (arith, z))
