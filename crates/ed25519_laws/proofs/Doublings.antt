-- Points by what their doubles are.
use Rattle.std.proofs.Common.{◌≡◌, ◌≢◌, ℕ, ◌+◌, ◌-◌, ◌%◌, ◌<◌, ◌⊎◌, List, [], ◌∷◌, refl, sym, ap, ap₂, ◌∙◌, inl, inr, arith}
use Rattle.std.proofs.lemmas.Bool.{cases_eq}
use Rattle.field25519.specs.Modulo.{p, plus, minus, times, power}
use Rattle.field25519.proofs.Powers.{times_comm}
use Rattle.edwards_model.specs.Curve.{d, Affine, IsPoint, quotient, joint, sum, neutral, multiple}
use Rattle.edwards_model.specs.Encoding.{imaginary}
use Rattle.edwards_model.proofs.Ring.{Expr, Var, Num, Add, Sub, Mul, meaning, ring}
use Rattle.edwards_model.proofs.Closing.{plus_whole, plus_none, minus_same, times_none, both_none}
use Rattle.edwards_model.proofs.Complete.{minus_none}
use Rattle.edwards_model.proofs.Units.{times_whole, times_zero, times_one, power_inverse, zero_factor, no_square}
use Rattle.edwards_model.proofs.Representing.{sum_has_denominators}
use Rattle.edwards_model.proofs.Group.{commutative, with_neutral, sum_is_point, multiple_twice}
use Rattle.edwards_model.proofs.Rooting.{imaginary_squared}
use Rattle.ed25519_laws.specs.Laws.{eighth}

-- ---- quotients

quotient_is : (u v k : ℕ) → v % p ≢ 0 → times k v ≡ u → quotient u v ≡ k % p
quotient_is u v k h e =
    let w = power v (p - 2) in
    ap (λ n. times n w) (sym e)
    ∙ ring (k ∷ v ∷ w ∷ []) (Mul (Mul (Var 0) (Var 1)) (Var 2)) (Mul (Var 0) (Mul (Var 1) (Var 2))) refl
    ∙ times_one k (times v w) (power_inverse v h)

no_quotient : (u v : ℕ) → v % p ≢ 0 → quotient u v ≡ 0 → u % p ≡ 0
no_quotient u v h e =
    let w = power v (p - 2) in
    let back : times (times u w) v ≡ u % p =
    ring (u ∷ v ∷ w ∷ []) (Mul (Mul (Var 0) (Var 2)) (Var 1)) (Mul (Var 0) (Mul (Var 1) (Var 2))) refl
    ∙ times_one u (times v w) (power_inverse v h) in
    sym back ∙ times_comm (times u w) v ∙ times_none v (times u w) e

-- ---- doubles

pub double_is : (a b : Affine) → IsPoint a → b.x % p ≡ b.x → b.y % p ≡ b.y →
    times b.x (plus 1 (joint a a)) ≡ plus (times a.x a.y) (times a.x a.y) →
    times b.y (minus 1 (joint a a)) ≡ plus (times a.y a.y) (times a.x a.x) → sum a a ≡ b
double_is a b h hx hy ex ey =
    let make : ℕ → ℕ → Affine = λ x y. record { x = x; y = y } in
    let bottom = sum_has_denominators a a h h in
    ap₂ make
    (quotient_is (plus (times a.x a.y) (times a.x a.y)) (plus 1 (joint a a)) b.x bottom.x ex ∙ hx)
    (quotient_is (plus (times a.y a.y) (times a.x a.x)) (minus 1 (joint a a)) b.y bottom.y ey ∙ hy)

one_times : (q : Affine) → IsPoint q → multiple 1 q ≡ q
unfolding multiple
one_times q h = commutative neutral q ∙ with_neutral q h

pub thrice : (a : Affine) → IsPoint a → multiple 8 a ≡ sum (sum (sum a a) (sum a a)) (sum (sum a a) (sum a a))
thrice a h =
    let b = sum a a in
    let hb : IsPoint b = sum_is_point a a h h in
    let c = sum b b in
    let hc : IsPoint c = sum_is_point b b hb hb in
    let one : multiple 4 b ≡ multiple 8 a = multiple_twice a h 4 in
    let two : multiple 2 c ≡ multiple 4 b = multiple_twice b hb 2 in
    let three : multiple 1 (sum c c) ≡ multiple 2 c = multiple_twice c hc 1 in
    sym one ∙ sym two ∙ sym three ∙ one_times (sum c c) (sum_is_point c c hc hc)

-- ---- the equations

abbrev X : Expr
X = Mul (Var 0) (Var 0)

abbrev Y : Expr
Y = Mul (Var 1) (Var 1)

abbrev curve : Expr
curve = Sub (Sub Y X) (Add (Num 1) (Mul (Num d) (Mul X Y)))

-- the square of the eighth y, which is a root of d y^2 + 2 y - 1
abbrev r : ℕ
r = 53699909539325142115343624207863611371097067213659596252119297355370707899025

double_identity : (e : List ℕ) → meaning e (Mul (Num 2) (Mul (Var 0) (Var 1))) ≡ meaning e (Add (Mul (Var 0) (Var 1)) (Mul (Var 0) (Var 1)))
double_identity e = ring e (Mul (Num 2) (Mul (Var 0) (Var 1))) (Add (Mul (Var 0) (Var 1)) (Mul (Var 0) (Var 1))) refl

row_identity : (e : List ℕ) → meaning e (Mul (Num (p - 1)) (Sub (Num 1) (Mul (Num d) (Mul X Y))))
    ≡ meaning e (Add (Add Y X) (Add curve (Mul (Mul (Num 2) (Sub (Mul (Num d) X) (Num 1))) Y)))
row_identity e =
    ring e (Mul (Num (p - 1)) (Sub (Num 1) (Mul (Num d) (Mul X Y))))
    (Add (Add Y X) (Add curve (Mul (Mul (Num 2) (Sub (Mul (Num d) X) (Num 1))) Y))) refl

unit_identity : (e : List ℕ) → meaning e (Mul (Sub (Var 1) (Num 1)) (Add (Var 1) (Num 1)))
    ≡ meaning e (Add curve (Mul (Add (Num 1) (Mul (Num d) Y)) X))
unit_identity e = ring e (Mul (Sub (Var 1) (Num 1)) (Add (Var 1) (Num 1))) (Add curve (Mul (Add (Num 1) (Mul (Num d) Y)) X)) refl

eighth_identity : (e : List ℕ) → meaning e (Mul (Sub Y (Num r)) (Add (Mul (Num d) (Add Y (Num r))) (Num 2)))
    ≡ meaning e (Add curve (Mul (Add (Num 1) (Mul (Num d) Y)) (Add Y X)))
eighth_identity e =
    ring e (Mul (Sub Y (Num r)) (Add (Mul (Num d) (Add Y (Num r))) (Num 2))) (Add curve (Mul (Add (Num 1) (Mul (Num d) Y)) (Add Y X))) refl

root_identity : (e : List ℕ) → meaning e (Mul (Sub (Var 1) (Num eighth)) (Add (Var 1) (Num eighth))) ≡ meaning e (Sub Y (Num r))
root_identity e = ring e (Mul (Sub (Var 1) (Num eighth)) (Add (Var 1) (Num eighth))) (Sub Y (Num r)) refl

other_identity : (e : List ℕ) → meaning e (Mul (Num d) (Mul (Mul (Var 1) (Num eighth)) (Mul (Var 1) (Num eighth))))
    ≡ meaning e (Sub (Mul (Num r) (Add (Mul (Num d) (Add Y (Num r))) (Num 2))) (Num 1))
other_identity e =
    ring e (Mul (Num d) (Mul (Mul (Var 1) (Num eighth)) (Mul (Var 1) (Num eighth))))
    (Sub (Mul (Num r) (Add (Mul (Num d) (Add Y (Num r))) (Num 2))) (Num 1)) refl

-- ---- what is halved

one_apart : p - 1 ≡ 1 → ⊥
one_apart h = omega (arith, h)

zero_apart : p - 1 ≡ 0 → ⊥
zero_apart h = omega (arith, h)

less_one : minus 0 1 ≡ p - 1
unfolding minus
less_one = refl

sum_none : (x y : ℕ) → y < p → x % p ≡ x → plus x y % p ≡ 0 → 0 < y → x ≡ p - y
unfolding plus
sum_none x y below residue h some = omega (arith, below, residue, h, some)

-- a double with no x
x_factors : (a : Affine) → IsPoint a → (sum a a).x ≡ 0 → (a.x ≡ 0) ⊎ (a.y ≡ 0)
x_factors a h e =
    let bottom = sum_has_denominators a a h h in
    let none : plus (times a.x a.y) (times a.x a.y) % p ≡ 0 = no_quotient (plus (times a.x a.y) (times a.x a.y)) (plus 1 (joint a a)) bottom.x e in
    let twice : times 2 (times a.x a.y) ≡ 0 = double_identity (a.x ∷ a.y ∷ []) ∙ sym (plus_whole (times a.x a.y) (times a.x a.y)) ∙ none in
    let product : times a.x a.y ≡ 0 = sym (times_whole a.x a.y) ∙ zero_factor 2 (times a.x a.y) twice (λ z. omega (arith, z)) in
    elim (cases_eq (a.x % p) 0) [
      | inl z ↦ inl (sym h.x_residue ∙ z)
      | inr n ↦ inr (sym h.y_residue ∙ zero_factor a.x a.y product n)
    ]

-- of a point with no y
double_down : (a : Affine) → IsPoint a → a.y ≡ 0 → (sum a a).y ≡ p - 1
double_down a h z =
    let bottom = sum_has_denominators a a h h in
    let none : times a.y a.y ≡ 0 = times_none a.y a.y z in
    let same : times (p - 1) (minus 1 (joint a a)) ≡ plus (times a.y a.y) (times a.x a.x) =
    row_identity (a.x ∷ a.y ∷ [])
    ∙ plus_none (plus (times a.y a.y) (times a.x a.x)) _ (both_none _ _ (minus_same _ _ h.curve.curve) (times_none _ (times a.y a.y) none))
    ∙ plus_whole (times a.y a.y) (times a.x a.x) in
    quotient_is (plus (times a.y a.y) (times a.x a.x)) (minus 1 (joint a a)) (p - 1) bottom.y same

unit_y : (a : Affine) → IsPoint a → a.x ≡ 0 → (a.y ≡ 1) ⊎ (a.y ≡ p - 1)
unit_y a h z =
    let none : times a.x a.x ≡ 0 = times_none a.x a.x z in
    let product : times (minus a.y 1) (plus a.y 1) ≡ 0 =
    unit_identity (a.x ∷ a.y ∷ []) ∙ both_none _ _ (minus_same _ _ h.curve.curve) (times_none _ (times a.x a.x) none) in
    elim (cases_eq (minus a.y 1 % p) 0) [
      | inl e ↦ inl (sym h.y_residue ∙ minus_none a.y 1 e ∙ one)
      | inr n ↦ inr (sum_none a.y 1 (omega arith) h.y_residue (zero_factor (minus a.y 1) (plus a.y 1) product n) (omega arith))
    ]
  where
    one : 1 % p ≡ 1
    one = refl

-- the other root of the equation is no square
other_root : (y : ℕ) → plus (times d (plus (times y y) r)) 2 % p ≡ 0 → ⊥
other_root y h =
    let q = times y eighth in
    let none : plus (times d (plus (times y y) r)) 2 ≡ 0 = sym (plus_whole (times d (plus (times y y) r)) 2) ∙ h in
    let square : times d (times q q) ≡ p - 1 =
    other_identity (0 ∷ y ∷ []) ∙ ap (λ n. minus n 1) (times_none r (plus (times d (plus (times y y) r)) 2) none) ∙ less_one in
    let zero : q % p ≡ 0 = no_square imaginary q (imaginary_squared ∙ sym square) in
    zero_apart (sym square ∙ ap (times d) (times_zero q q zero) ∙ times_zero d 0 refl)

eighth_y : (a : Affine) → IsPoint a → plus (times a.y a.y) (times a.x a.x) ≡ 0 → (a.y ≡ eighth) ⊎ (a.y ≡ p - eighth)
eighth_y a h none =
    let e : List ℕ = a.x ∷ a.y ∷ [] in
    let product : times (minus (times a.y a.y) r) (plus (times d (plus (times a.y a.y) r)) 2) ≡ 0 =
    eighth_identity e ∙ both_none _ _ (minus_same _ _ h.curve.curve) (times_none _ (plus (times a.y a.y) (times a.x a.x)) none) in
    elim (cases_eq (minus (times a.y a.y) r % p) 0) [
      | inl z ↦
          let same : times a.y a.y ≡ r = sym (times_whole a.y a.y) ∙ minus_none (times a.y a.y) r z ∙ whole in
          let roots : times (minus a.y eighth) (plus a.y eighth) ≡ 0 = root_identity e ∙ minus_same _ _ same in
          elim (cases_eq (minus a.y eighth % p) 0) [
            | inl w ↦ inl (sym h.y_residue ∙ minus_none a.y eighth w ∙ residue)
            | inr n ↦
                inr (sum_none a.y eighth (omega arith) h.y_residue (zero_factor (minus a.y eighth) (plus a.y eighth) roots n) (omega arith))
          ]
      | inr n ↦ absurd (other_root a.y (zero_factor (minus (times a.y a.y) r) (plus (times d (plus (times a.y a.y) r)) 2) product n))
    ]
  where
    whole : r % p ≡ r
    whole = refl

    residue : eighth % p ≡ eighth
    residue = refl

-- ---- points that 8 times are neutral

abbrev pub IsSmall : Affine → Type 0
IsSmall a = ((a.x ≡ 0) × ((a.y ≡ 1) ⊎ (a.y ≡ p - 1))) ⊎ ((a.y ≡ 0) ⊎ ((a.y ≡ eighth) ⊎ (a.y ≡ p - eighth)))

pub small_is : (a : Affine) → IsPoint a → multiple 8 a ≡ neutral → IsSmall a
small_is a h e =
    let b = sum a a in
    let hb : IsPoint b = sum_is_point a a h h in
    let c = sum b b in
    let hc : IsPoint c = sum_is_point b b hb hb in
    let end : sum c c ≡ neutral = sym (thrice a h) ∙ e in
    let cx : c.x ≡ 0 =
    elim (x_factors c hc (ap (λ (q : Affine). q.x) end)) as (λ _. c.x ≡ 0) [
      | inl z ↦ z
      | inr z ↦ absurd (one_apart (sym (double_down c hc z) ∙ ap (λ (q : Affine). q.y) end))
    ] in
    elim (x_factors b hb cx) as (λ _. IsSmall a) [
      | inl z ↦ elim (x_factors a h z) as (λ _. IsSmall a) [ inl w ↦ inl (w, unit_y a h w) | inr w ↦ inr (inl w) ]
      | inr z ↦
          let bottom = sum_has_denominators a a h h in
          let none = no_quotient (plus (times a.y a.y) (times a.x a.x)) (minus 1 (joint a a)) bottom.y z in
          inr (inr (eighth_y a h (sym (plus_whole (times a.y a.y) (times a.x a.x)) ∙ none)))
    ]
