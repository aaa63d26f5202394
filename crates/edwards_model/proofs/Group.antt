-- The points of the curve are a group, of which multiples are sums.
use Rattle.std.proofs.Common.{◌≡◌, ◌≢◌, ℕ, zero, suc, ◌+◌, ◌-◌, ◌*◌, ◌/◌, ◌%◌, ◌^◌, ◌<◌, Bool, true, false, List, [], ◌∷◌, refl, sym, ap, ap₂, ◌∙◌}
use Rattle.std.proofs.Common.{subst, arith, add-one}
use Rattle.std.specs.Prelude.{if◌then◌else◌}
use Rattle.std.specs.Cmp.Derive.{both_true}
use Rattle.std.proofs.lemmas.Bool.{eqb-true, eq-eqb}
use Rattle.std.proofs.lemmas.Bool.Decides.{nat_tests}
use Rattle.std.proofs.Math.Nat.{pow-suc, pow-zero, mul_comm, div-add-mod}
use Rattle.field25519.specs.Bytes.{is_odd}
use Rattle.field25519.specs.Modulo.{p, plus, minus, times, power}
use Rattle.edwards_model.specs.Curve.{d, order, Affine, IsPoint, quotient, joint, sum, neutral, opposite, base, multiple, same}
use Rattle.edwards_model.specs.Extended.{added, doubled, same_point, Extended, extended, Represents}
use Rattle.edwards_model.proofs.Ring.{and_left, and_right, Var, Num, Add, Sub, Mul, ring}
use Rattle.field25519.proofs.Powers.{times_comm}
use Rattle.edwards_model.proofs.Units.{times_one, power_inverse}
use Rattle.edwards_model.proofs.Closing.{times_none}
use Rattle.edwards_model.proofs.Complete.{minus_whole}
use Rattle.edwards_model.proofs.Associating.{added_is_associative}
use Rattle.edwards_model.proofs.Representing.{added_represents, on_curve, sum_has_denominators}
use Rattle.edwards_model.proofs.Rooting.{one_nonzero, negated}
use Rattle.edwards_model.proofs.Doubling.{doubled_represents, test_represents}

pub of_represents : (q : Extended) (a : Affine) → Represents q a → IsPoint a
of_represents q a h = record { curve = h.curve; x_residue = h.x_residue; y_residue = h.y_residue }

pub at_one : (a : Affine) → IsPoint a → Represents (extended a 1) a
at_one a h = record { z_nonzero = one_nonzero; point = refl; curve = h.curve; x_residue = h.x_residue; y_residue = h.y_residue }

pub same_is : (a b : Affine) → same a b ≡ true → a ≡ b
same_is a b h =
    let make : ℕ → ℕ → Affine = λ x y. record { x = x; y = y } in
    ap₂ make (eqb-true a.x b.x (and_left _ _ h)) (eqb-true a.y b.y (and_right _ _ h))

pub same_self : (a b : Affine) → a ≡ b → same a b ≡ true
same_self a b h = both_true (eq-eqb a.x b.x (ap (λ (c : Affine). c.x) h)) (eq-eqb a.y b.y (ap (λ (c : Affine). c.y) h))

pub sum_is_point : (a b : Affine) → IsPoint a → IsPoint b → IsPoint (sum a b)
sum_is_point a b h g = of_represents _ _ (added_represents (extended a 1) (extended b 1) a b (at_one a h) (at_one b g))

pub associative : (a b c : Affine) → IsPoint a → IsPoint b → IsPoint c → sum (sum a b) c ≡ sum a (sum b c)
associative a b c ha hb hc =
    let A = extended a 1 in
    let B = extended b 1 in
    let C = extended c 1 in
    let ra = at_one a ha in
    let rb = at_one b hb in
    let rc = at_one c hc in
    same_is _ _ (
    sym (test_represents (added (added A B) C) (added A (added B C)) (sum (sum a b) c) (sum a (sum b c))
    (added_represents (added A B) C (sum a b) c (added_represents A B a b ra rb) rc) (added_represents A (added B C) a (sum b c) ra (added_represents
    B C b c rb rc)))
    ∙ added_is_associative A B C (on_curve a 1 ha.curve) (on_curve b 1 hb.curve) (on_curve c 1 hc.curve))

plus_comm : (x y : ℕ) → plus x y ≡ plus y x
unfolding plus
plus_comm x y = ap (λ n. n % p) (let o : x + y ≡ y + x = omega arith in o)

pub commutative : (a b : Affine) → sum a b ≡ sum b a
commutative a b =
    let make : ℕ → ℕ → Affine = λ x y. record { x = x; y = y } in
    let j : joint a b ≡ joint b a = ap (times d) (ap₂ times (times_comm a.x b.x) (times_comm a.y b.y)) in
    ap₂ make
    (ap₂ quotient (plus_comm (times a.x b.y) (times b.x a.y)) (ap (plus 1) j))
    (ap₂ quotient (ap₂ plus (times_comm a.y b.y) (times_comm a.x b.x)) (ap (minus 1) j))

one_times : times 1 1 ≡ 1
unfolding times
one_times = refl

by_one : (x n k : ℕ) → x % p ≡ x → n ≡ x → k ≡ 1 → quotient n k ≡ x
by_one x n k r h g =
    let v = power 1 (p - 2) in
    ap₂ quotient h g
    ∙ ring (x ∷ v ∷ []) (Mul (Var 0) (Var 1)) (Mul (Var 0) (Mul (Num 1) (Var 1))) refl
    ∙ times_one x (times 1 v) (power_inverse 1 one_nonzero) ∙ r

pub with_neutral : (a : Affine) → IsPoint a → sum a neutral ≡ a
with_neutral a h =
    let make : ℕ → ℕ → Affine = λ x y. record { x = x; y = y } in
    let e : List ℕ = a.x ∷ a.y ∷ [] in
    ap₂ make
    (by_one a.x _ _ h.x_residue
    (ring e (Add (Mul (Var 0) (Num 1)) (Mul (Num 0) (Var 1))) (Mul (Var 0) (Num 1)) refl ∙ times_one a.x 1 refl ∙ h.x_residue)
    (ring e (Add (Num 1) (Mul (Num d) (Mul (Mul (Var 0) (Num 0)) (Mul (Var 1) (Num 1))))) (Mul (Num 1) (Num 1)) refl ∙ one_times))
    (by_one a.y _ _ h.y_residue
    (ring e (Add (Mul (Var 1) (Num 1)) (Mul (Var 0) (Num 0))) (Mul (Var 1) (Num 1)) refl ∙ times_one a.y 1 refl ∙ h.y_residue)
    (ring e (Sub (Num 1) (Mul (Num d) (Mul (Mul (Var 0) (Num 0)) (Mul (Var 1) (Num 1))))) (Mul (Num 1) (Num 1)) refl ∙ one_times))

pub opposite_is_point : (a : Affine) → IsPoint a → IsPoint (opposite a)
opposite_is_point a h =
    let square = negated a.x in
    record {
      curve = record {
        curve =
            ap (minus (times a.y a.y)) square ∙ h.curve.curve
            ∙ ap (λ xx. plus 1 (times d (times xx (times a.y a.y)))) (sym square);
      };
      x_residue = minus_whole 0 a.x;
      y_residue = h.y_residue;
    }

-- numerator and denominator of y are both y^2 - x^2, by the curve
pub with_opposite : (a : Affine) → IsPoint a → sum a (opposite a) ≡ neutral
with_opposite a h =
    let make : ℕ → ℕ → Affine = λ x y. record { x = x; y = y } in
    let b = opposite a in
    let inverse = power (plus 1 (joint a b)) (p - 2) in
    let k = minus 1 (joint a b) in
    let denominators = sum_has_denominators a b h (opposite_is_point a h) in
    let e : List ℕ = a.x ∷ a.y ∷ inverse ∷ [] in
    ap₂ make
    (ring e (Mul (Add (Mul (Var 0) (Var 1)) (Mul (Sub (Num 0) (Var 0)) (Var 1))) (Var 2)) (Mul (Var 2) (Num 0)) refl
    ∙ times_none inverse 0 refl)
    (ap (λ n. quotient n k)
    (ring e (Add (Mul (Var 1) (Var 1)) (Mul (Var 0) (Sub (Num 0) (Var 0)))) (Sub (Mul (Var 1) (Var 1)) (Mul (Var 0) (Var 0))) refl
    ∙ h.curve.curve
    ∙ ring e (Add (Num 1) (Mul (Num d) (Mul (Mul (Var 0) (Var 0)) (Mul (Var 1) (Var 1)))))
    (Sub (Num 1) (Mul (Num d) (Mul (Mul (Var 0) (Sub (Num 0) (Var 0))) (Mul (Var 1) (Var 1))))) refl)
    ∙ power_inverse k denominators.y)

pub neutral_is : IsPoint neutral
unfolding plus minus times
neutral_is = record { curve = record { curve = refl }; x_residue = refl; y_residue = refl }

pub base_is : IsPoint base
unfolding plus minus times
base_is = record { curve = record { curve = refl }; x_residue = refl; y_residue = refl }

module _ (a : Affine) (h : IsPoint a) where
  pub multiple_is : (n : ℕ) → IsPoint (multiple n a)
  unfolding multiple
  multiple_is zero = neutral_is
  multiple_is (suc n) = sum_is_point (multiple n a) a (multiple_is n) h

  pub multiple_sum : (m n : ℕ) → multiple (m + n) a ≡ sum (multiple m a) (multiple n a)
  unfolding multiple
  multiple_sum m zero = ap (λ k. multiple k a) (let o : m + 0 ≡ m = omega arith in o) ∙ sym (with_neutral (multiple m a) (multiple_is m))
  multiple_sum m (suc n) =
      ap (λ k. multiple k a) (let o : m + suc n ≡ suc (m + n) = omega arith in o)
      ∙ ap (λ b. sum b a) (multiple_sum m n) ∙ associative (multiple m a) (multiple n a) a (multiple_is m) (multiple_is n) h

  pub multiple_twice : (n : ℕ) → multiple n (sum a a) ≡ multiple (n + n) a
  unfolding multiple
  multiple_twice zero = ap (λ k. multiple k a) (let o : 0 ≡ 0 + 0 = omega arith in o)
  multiple_twice (suc n) =
      ap (λ b. sum b (sum a a)) (multiple_twice n)
      ∙ sym (associative (multiple (n + n) a) a a (multiple_is (n + n)) h h)
      ∙ ap (λ k. multiple k a) (let o : suc (suc (n + n)) ≡ suc n + suc n = omega arith in o)

  pub multiple_multiple : (m n : ℕ) → multiple m (multiple n a) ≡ multiple (m * n) a
  unfolding multiple
  multiple_multiple zero n = ap (λ k. multiple k a) (let o : 0 ≡ 0 * n = omega arith in o)
  multiple_multiple (suc m) n =
      ap (λ b. sum b (multiple n a)) (multiple_multiple m n) ∙ sym (multiple_sum (m * n) n)
      ∙ ap (λ k. multiple k a) (let o : m * n + n ≡ suc m * n = omega arith in o)

odd_cases : (n : ℕ) (o : Bool) → is_odd n ≡ o → n ≡ n / 2 + n / 2 + (if o then 1 else 0)
odd_cases n true h = (let e : n % 2 ≡ 1 = eqb-true (n % 2) 1 h in omega (arith, e))
odd_cases n false h = (let e : n % 2 ≢ 1 = grind (arith, nat_tests, h) in omega (arith, e))

step : (a b : Affine) (h : ℕ) (o : Bool) → IsPoint a → IsPoint b →
    sum (if o then sum b a else b) (multiple (h + h) a) ≡ sum b (multiple (h + h + (if o then 1 else 0)) a)
unfolding multiple
step a b h true ha hb =
    associative b a (multiple (h + h) a) hb ha (multiple_is a ha (h + h)) ∙ ap (sum b) (commutative a (multiple (h + h) a))
    ∙ ap (λ k. sum b (multiple k a)) (sym (add-one (h + h)))
step a b h false ha hb = ap (λ k. sum b (multiple k a)) (let o : h + h ≡ h + h + 0 = omega arith in o)

-- r, and n times q, by doubling: of so many bits of n
abbrev ladder : ℕ → ℕ → Extended → Extended → Extended
ladder zero n q r = r
ladder (suc bits) n q r = ladder bits (n / 2) (doubled q) (if is_odd n then added r q else r)

chosen_represents : (o : Bool) (q r : Extended) (a b : Affine) → Represents q a → Represents r b →
    Represents (if o then added r q else r) (if o then sum b a else b)
chosen_represents true q r a b h g = added_represents r q b a g h
chosen_represents false q r a b h g = g

ladder_represents : (bits n : ℕ) (q r : Extended) (a b : Affine) → Represents q a → Represents r b → n < 2 ^ bits → Represents (ladder bits n q r)
    (sum b (multiple n a))
unfolding multiple
ladder_represents zero n q r a b h g l =
    let none : n ≡ 0 = omega (arith, l, pow-zero 2) in
    subst (Represents r) (sym (with_neutral b (of_represents r b g)) ∙ ap (λ k. sum b (multiple k a)) (sym none)) g
ladder_represents (suc bits) n q r a b h g l =
    let m = n / 2 in
    let two : 2 ^ suc bits ≡ 2 ^ bits * 2 = pow-suc 2 bits in
    let o = is_odd n in
    let c = if o then sum b a else b in
    let ha = of_represents q a h in
    subst (Represents (ladder bits m (doubled q) (if o then added r q else r)))
    (ap (sum c) (multiple_twice a ha m) ∙ step a b m o ha (of_represents r b g) ∙ ap (λ k. sum b (multiple k a)) (sym (odd_cases n o refl)))
    (ladder_represents bits m (doubled q) (if o then added r q else r) (sum a a) c (doubled_represents q a h) (chosen_represents o q r a b h g)
    (omega (arith, l, two)))

order_small : order < 2 ^ 256
order_small = omega arith

order_ends : same_point (ladder 256 order (extended base 1) (extended neutral 1)) (extended neutral 1) ≡ true
unfolding added doubled plus minus times
order_ends = refl

-- [L]B is the neutral point
pub order_of_base : multiple order base ≡ neutral
order_of_base =
    let total = sum neutral (multiple order base) in
    let one = at_one neutral neutral_is in
    sym (with_neutral (multiple order base) (multiple_is base base_is order)) ∙ commutative (multiple order base) neutral
    ∙ same_is total neutral
    (sym (test_represents (ladder 256 order (extended base 1) (extended neutral 1)) (extended neutral 1) total neutral
    (ladder_represents 256 order (extended base 1) (extended neutral 1) base neutral (at_one base base_is) one order_small) one) ∙ order_ends)

pub multiple_neutral : (n : ℕ) → multiple n neutral ≡ neutral
unfolding multiple
multiple_neutral zero = refl
multiple_neutral (suc n) = ap (λ b. sum b neutral) (multiple_neutral n) ∙ with_neutral neutral neutral_is

-- multiples of a point that n times is neutral are those by the residues modulo n
pub multiple_residue : (a : Affine) → IsPoint a → (n k : ℕ) → multiple n a ≡ neutral → multiple (k % n) a ≡ multiple k a
multiple_residue a h n k e =
    let q = k / n in
    let r = k % n in
    let turned : q * n + r ≡ k = (let e : n * q + r ≡ k = div-add-mod k n in ap (λ k. k + r) (mul_comm q n) ∙ e) in
    let whole : multiple (q * n) a ≡ neutral = sym (multiple_multiple a h q n) ∙ ap (multiple q) e ∙ multiple_neutral q in
    sym (
    ap (λ k. multiple k a) (sym turned) ∙ multiple_sum a h (q * n) r ∙ ap (λ b. sum b (multiple r a)) whole
    ∙ commutative neutral (multiple r a) ∙ with_neutral (multiple r a) (multiple_is a h r))

pub base_residue : (k : ℕ) → multiple (k % order) base ≡ multiple k base
base_residue k = multiple_residue base base_is order k order_of_base
