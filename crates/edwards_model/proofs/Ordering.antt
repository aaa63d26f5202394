-- The multiples of the base point by numbers below its order are different.
use Rattle.std.proofs.Common.{◌≡◌, ◌≢◌, ℕ, ◌+◌, ◌-◌, ◌*◌, ◌%◌, ◌<◌, ◌≤◌, sym, ap, ◌∙◌, inl, inr, arith}
use Rattle.std.proofs.lemmas.Bool.{cases_eq, cases_lt}
use Rattle.std.proofs.Math.Nat.{mod-eq_of_lt, mul_comm}
use Rattle.edwards_model.specs.Curve.{Affine, sum, neutral, base, order, multiple}
use Rattle.edwards_model.proofs.Primality.{order_is_prime}
use Rattle.edwards_model.proofs.Group.{associative, commutative, with_neutral, base_is, multiple_is, multiple_sum, multiple_multiple}
use Rattle.edwards_model.proofs.Group.{multiple_neutral, order_of_base, base_residue}

abbrev B : Affine
B = base

base_apart : base ≡ neutral → ⊥
base_apart h = (let e : base.x ≡ 0 = ap (λ (a : Affine). a.x) h in omega (arith, e))

one_base : multiple 1 B ≡ B
unfolding multiple
one_base = commutative neutral B ∙ with_neutral B base_is

-- less than the order of them is not neutral
none_neutral : (k : ℕ) → k < order → multiple k B ≡ neutral → k ≡ 0
none_neutral k l h =
    elim (cases_eq k 0) [
      | inl z ↦ z
      | inr n ↦
          let other : k % order ≢ 0 = λ z. n (sym (mod-eq_of_lt l) ∙ z) in
          let v = order_is_prime.inverse k other in
          let all : multiple (v.0 * k) B ≡ neutral = sym (multiple_multiple B base_is v.0 k) ∙ ap (multiple v.0) h ∙ multiple_neutral v.0 in
          let one : multiple (v.0 * k) B ≡ B = sym (base_residue (v.0 * k)) ∙ ap (λ j. multiple (j % order) B) (mul_comm v.0 k) ∙ ap (λ j. multiple j
          B) v.1 ∙ one_base in
          absurd (base_apart (sym one ∙ all))
    ]

below_once : (i j : ℕ) → i ≤ j → j < order → multiple i B ≡ multiple j B → i ≡ j
below_once i j l b h =
    let c = j - i in
    let a = order - i in
    let X = multiple c B in
    let split : multiple j B ≡ sum (multiple i B) X = ap (λ k. multiple k B) (let o : j ≡ i + c = omega (arith, l) in o) ∙ multiple_sum B base_is i c in
    let ends : sum (multiple a B) (multiple i B) ≡ neutral = sym (multiple_sum B base_is a i) ∙ ap (λ k. multiple k B) (let o : a + i ≡ order = omega
    (arith, l, b) in o) ∙ order_of_base in
    let pa = multiple_is B base_is a in
    let pi = multiple_is B base_is i in
    let px = multiple_is B base_is c in
    let none : X ≡ neutral =
    sym (with_neutral X px) ∙ commutative X neutral ∙ ap (λ n. sum n X) (sym ends) ∙ associative (multiple a B) (multiple i B) X pa pi px
    ∙ ap (sum (multiple a B)) (sym split ∙ sym h) ∙ ends in
    let z : c ≡ 0 = none_neutral c (omega (arith, b)) none in
    omega (arith, z, l)

pub once : (i j : ℕ) → i < order → j < order → multiple i B ≡ multiple j B → i ≡ j
once i j l k h = elim (cases_lt i j) [ inl b ↦ below_once i j (omega (arith, b)) k h | inr b ↦ sym (below_once j i b l (sym h)) ]
