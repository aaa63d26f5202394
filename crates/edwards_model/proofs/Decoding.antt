-- The encoding of a pair is decoded to it.
use Rattle.std.proofs.Common.{◌≡◌, ◌≢◌, ℕ, zero, suc, ◌+◌, ◌-◌, ◌*◌, ◌/◌, ◌%◌, ◌^◌, ◌<◌, Bool, true, false, ◌⊎◌, List, [], ◌∷◌, length, Option, Some}
use Rattle.std.proofs.Common.{None, refl, sym, ap, ap₂, ◌∙◌, subst, inl, inr, arith}
use Rattle.std.specs.Prelude.{nat_eq, nat_lt, ◌&&◌, if◌then◌else◌}
use Rattle.std.proofs.lemmas.Bool.{eq-eqb, lt-ltb, cases_eq}
use Rattle.std.proofs.lemmas.Bool.Decides.{nat_tests, eqb_tells}
use Rattle.std.proofs.Math.Nat.{pow-suc, pow-zero, mod-mod}
use Rattle.field25519.specs.Bytes.{number, bytes_of}
use Rattle.field25519.specs.Modulo.{p, plus, minus, times, power}
use Rattle.field25519.proofs.Powers.{by_sum, by_next, times_comm}
use Rattle.edwards_model.specs.Curve.{d, Affine, IsPoint}
use Rattle.edwards_model.specs.Encoding.{imaginary, candidate, root, with_sign, with_root, on_row, decoded, encoded}
use Rattle.edwards_model.proofs.Ring.{Var, Num, Add, Sub, Mul, meaning, ring}
use Rattle.edwards_model.proofs.Closing.{plus_whole, minus_same, times_none, plus_none}
use Rattle.edwards_model.proofs.Primality.{p_is_prime, halved}
use Rattle.edwards_model.proofs.Units.{times_whole, times_zero, times_one, cancel, zero_factor, nonzero_product, no_square}
use Rattle.edwards_model.proofs.Complete.{minus_whole, minus_none}
use Rattle.edwards_model.proofs.Rooting.{imaginary_squared, root_is, IsRoot}

-- ---- bytes
pub number_bytes : (count n : ℕ) → n < 256 ^ count → number (bytes_of count n) ≡ n
unfolding bytes_of
number_bytes zero n h = omega (arith, h, pow-zero 256)
number_bytes (suc count) n h =
    let more : 256 ^ suc count ≡ 256 ^ count * 256 = pow-suc 256 count in
    ap (λ k. n % 256 + 256 * k) (number_bytes count (n / 256) (omega (arith, h, more))) ∙ (let o : n % 256 + 256 * (n / 256) ≡ n = omega arith in o)

pub length_bytes : (count n : ℕ) → length (bytes_of count n) ≡ count
unfolding bytes_of
length_bytes zero n = refl
length_bytes (suc count) n = ap suc (length_bytes count (n / 256))

-- ---- the root
one_less : (n : ℕ) → n % p ≡ n → plus n 1 ≡ 0 → n ≡ p - 1
unfolding plus
one_less n r e = omega (arith, r, e)

apart : p - 1 ≡ 0 → ⊥
apart e = omega (arith, e)

-- v is not zero, since -1 is a square and d is none
v_nonzero : (y : ℕ) → plus (times d (times y y)) 1 % p ≢ 0
v_nonzero y h =
    let small : times d (times y y) ≡ p - 1 = one_less (times d (times y y)) (times_whole _ _) (sym (plus_whole _ _) ∙ h) in
    let none : y % p ≡ 0 = no_square imaginary y (imaginary_squared ∙ sym small) in
    apart (sym small ∙ ap (times d) (times_zero y y none) ∙ times_zero d 0 refl)

abbrev cube : ℕ → ℕ
cube v = times (times v v) v

abbrev seventh : ℕ → ℕ
seventh v = times (times (cube v) (cube v)) v

-- v c^2 = u w w'^2, for w = u v^7 and its power w'
candidate_square : (u v : ℕ) → let w = times u (seventh v) in let r = power w ((p - 5) / 8) in
    times v (times (candidate u v) (candidate u v)) ≡ times u (times w (times r r))
candidate_square u v =
    let r = power (times u (seventh v)) ((p - 5) / 8) in
    let V = Var 1 in
    let V3 = Mul (Mul V V) V in
    let V7 = Mul (Mul V3 V3) V in
    let c = Mul (Mul (Var 0) V3) (Var 2) in
    ring (u ∷ v ∷ r ∷ []) (Mul V (Mul c c)) (Mul (Var 0) (Mul (Mul (Var 0) V7) (Mul (Var 2) (Var 2)))) refl

-- w w'^2 is the power with exponent (p - 1) / 4
whole_power : (w : ℕ) → let r = power w ((p - 5) / 8) in times w (times r r) ≡ power w ((p - 1) / 4)
whole_power w =
    let e = (p - 5) / 8 in
    let r = power w e in
    let twice : times r r ≡ power w (2 * e) = by_sum w e e (2 * e) r r (times r r) refl refl refl refl in
    by_next w (2 * e) ((p - 1) / 4) (times r r) (times w (times r r)) refl twice (times_comm w (times r r))

power_square : (q n : ℕ) → power (times q q) n ≡ power q (2 * n)
unfolding times power
power_square q n = halved p q n

-- the power of a square with exponent (p - 1) / 4 is 1 or -1
abbrev fourth : ℕ → ℕ → ℕ
fourth v x = times (times (times v v) (times v v)) x

w_is_square : (v x : ℕ) → times (times v (times x x)) (seventh v) ≡ times (fourth v x) (fourth v x)
w_is_square v x =
    let V = Var 0 in
    let X = Var 1 in
    let V3 = Mul (Mul V V) V in
    let V7 = Mul (Mul V3 V3) V in
    let q = Mul (Mul (Mul V V) (Mul V V)) X in
    ring (v ∷ x ∷ []) (Mul (Mul V (Mul X X)) V7) (Mul q q) refl

fermat : (q : ℕ) → q % p ≢ 0 → power q (p - 1) ≡ 1
unfolding power
fermat q h = p_is_prime.fermat q h

power_whole : (q n : ℕ) → power q n % p ≡ power q n
unfolding power
power_whole q n = mod-mod (q ^ n) p

unit_cases : (s : ℕ) → s % p ≡ s → times s s ≡ 1 → (s ≡ 1) ⊎ (s ≡ p - 1)
unit_cases s r h =
    let S = Var 0 in
    let factors : times (minus s 1) (plus s 1) ≡ 0 =
    ring (s ∷ []) (Mul (Sub S (Num 1)) (Add S (Num 1))) (Sub (Mul S S) (Num 1)) refl ∙ minus_same _ _ h in
    elim (cases_eq (minus s 1 % p) 0) [
      | inl z ↦ inl (sym r ∙ minus_none s 1 z ∙ one_residue)
      | inr n ↦ inr (one_less s r (sym (plus_whole s 1) ∙ zero_factor (minus s 1) (plus s 1) factors n))
    ]
  where
    one_residue : 1 % p ≡ 1
    one_residue = refl

-- a root is found where there is one
module _ (u v x : ℕ) (ur : u % p ≡ u) (is_u : times v (times x x) ≡ u) (vn : v % p ≢ 0) where
  abbrev w : ℕ
  w = times u (seventh v)

  square_is : times v (times (candidate u v) (candidate u v)) ≡ times u (power w ((p - 1) / 4))
  square_is = candidate_square u v ∙ ap (times u) (whole_power w)

  power_is : power w ((p - 1) / 4) ≡ power (fourth v x) ((p - 1) / 2)
  power_is = ap (λ n. power n ((p - 1) / 4)) (ap (λ n. times n (seventh v)) (sym is_u) ∙ w_is_square v x) ∙ power_square (fourth v x) ((p - 1) / 4)

  squares : (times v (times (candidate u v) (candidate u v)) ≡ u) ⊎ (times v (times (candidate u v) (candidate u v)) ≡ minus 0 u)
  squares =
      elim (cases_eq (x % p) 0) [
        | inl z ↦
            let none : u ≡ 0 = sym is_u ∙ ap (times v) (times_zero x x z) ∙ times_zero v 0 refl in
            inl (square_is ∙ ap (λ n. times n (power w ((p - 1) / 4))) none ∙ times_comm 0 _ ∙ times_zero _ 0 refl ∙ sym none)
        | inr n ↦
            let q = fourth v x in
            let qn : q % p ≢ 0 = nonzero_product _ x (nonzero_product _ _ (nonzero_product v v vn vn) (nonzero_product v v vn vn)) n in
            let s = power q ((p - 1) / 2) in
            let one : times s s ≡ 1 = by_sum q ((p - 1) / 2) ((p - 1) / 2) (p - 1) s s (times s s) refl refl refl refl ∙ fermat q qn in
            elim (unit_cases s (power_whole q _) one) [
              | inl e ↦ inl (square_is ∙ ap (times u) (power_is ∙ e) ∙ times_one u 1 refl ∙ ur)
              | inr e ↦ inr (square_is ∙ ap (times u) (power_is ∙ e) ∙ ring (u ∷ []) (Mul (Var 0) (Num (p - 1))) (Sub (Num 0) (Var 0)) refl)
            ]
      ]

  found_by : (c : ℕ) (b b2 : Bool) → nat_eq (times v (times c c)) u ≡ b → nat_eq (times v (times c c)) (minus 0 u) ≡ b2 →
      (times v (times c c) ≡ u) ⊎ (times v (times c c) ≡ minus 0 u) →
      (r : ℕ) × ((if b then Some c else (if b2 then Some (times c imaginary) else None)) ≡ Some r)
  found_by c true b2 h g s = (c, refl)
  found_by c false true h g s = (times c imaginary, refl)
  found_by c false false h g s =
      elim s [ inl e ↦ absurd (let t = eq-eqb _ _ e in cc) | inr e ↦ absurd (let t = eq-eqb _ _ e in cc) ]

  found : (r : ℕ) × (root u v ≡ Some r)
  unfolding root
  found = found_by (candidate u v) _ _ refl refl squares

  -- what is found is x or its negative
  pub outcome : (r : ℕ) × (root u v ≡ Some r) × (r % p ≡ r) × ((r % p ≡ x % p) ⊎ (plus r x ≡ 0))
  outcome =
      let f = found in
      let r = f.0 in
      let is : IsRoot u v (Some r) = subst (IsRoot u v) f.1 (root_is u v) in
      let same : times r r ≡ times x x =
      sym (times_whole r r) ∙ cancel v (times r r) (times x x) vn (is.0 ∙ ur ∙ sym is_u) ∙ times_whole x x in
      let factors : times (minus r x) (plus r x) ≡ 0 =
      ring (r ∷ x ∷ []) (Mul (Sub (Var 0) (Var 1)) (Add (Var 0) (Var 1))) (Sub (Mul (Var 0) (Var 0)) (Mul (Var 1) (Var 1))) refl ∙ minus_same _ _ same in (
        r,
        f.1,
        is.1,
        elim (cases_eq (minus r x % p) 0) [
          | inl z ↦ inl (minus_none r x z)
          | inr n ↦ inr (sym (plus_whole r x) ∙ zero_factor (minus r x) (plus r x) factors n)
        ],
      )

-- ---- the sign
negative : (x r : ℕ) → x % p ≡ x → r % p ≡ r → plus r x ≡ 0 → (r ≡ x) ⊎ ((0 < x) × (r + x ≡ p))
unfolding plus
negative x r hx hr e =
    elim (cases_eq x 0) [
      | inl z ↦ inl (omega (arith, z, hx, hr, e))
      | inr n ↦ inr (omega (arith, n, hx, hr, e), omega (arith, n, hx, hr, e))
    ]

some_pair : (x y z : ℕ) (b c : Bool) → b ≡ false → (if c then z else minus 0 z) ≡ x →
    ◌≡◌ {A = Option Affine} (if b then None else Some (record { x = if c then z else minus 0 z; y = y })) (Some (record { x = x; y = y }))
some_pair x y z true c h g = cc
some_pair x y z false c h g =
    let make : ℕ → Option Affine = λ n. Some (record { x = n; y = y }) in
    ap make g

not_both : (x : ℕ) → nat_eq x 0 && nat_eq (x % 2) 1 ≡ false
not_both x = grind (arith, nat_tests)

other_parity : (x r : ℕ) → 0 < x → r + x ≡ p → nat_eq (r % 2) (x % 2) ≡ false
other_parity x r h e =
    elim (eqb_tells (r % 2) (x % 2)) [
      | inl s ↦ absurd (let same : r % 2 ≡ x % 2 = s.1 in omega (arith, same, e))
      | inr s ↦ s.0
    ]

zero_apart : (x r : ℕ) (b : Bool) → 0 < r → nat_eq r 0 && b ≡ false
zero_apart x r b h = grind (arith, nat_tests)

back : (x r : ℕ) → x % p ≡ x → r + x ≡ p → minus 0 r ≡ x
unfolding minus
back x r hx e = omega (arith, hx, e)

sign_same : (x y : ℕ) → with_sign y (x % 2) x ≡ Some (record { x = x; y = y })
sign_same x y =
    some_pair x y x (nat_eq x 0 && nat_eq (x % 2) 1) (nat_eq (x % 2) (x % 2)) (not_both x)
    (ap (λ c. if c then x else minus 0 x) (eq-eqb (x % 2) (x % 2) refl))

sign_other : (x y r : ℕ) → x % p ≡ x → 0 < x → r + x ≡ p → with_sign y (x % 2) r ≡ Some (record { x = x; y = y })
sign_other x y r hx pos e =
    some_pair x y r (nat_eq r 0 && nat_eq (x % 2) 1) (nat_eq (r % 2) (x % 2)) (zero_apart x r (nat_eq (x % 2) 1) (positive x r hx e))
    (ap (λ c. if c then r else minus 0 r) (other_parity x r pos e) ∙ back x r hx e)
  where
    positive : (x r : ℕ) → x % p ≡ x → r + x ≡ p → 0 < r
    positive x r hx e = omega (arith, hx, e)

sign_is : (x y r : ℕ) → x % p ≡ x → r % p ≡ r → (r % p ≡ x % p) ⊎ (plus r x ≡ 0) → with_sign y (x % 2) r ≡ Some (record { x = x; y = y })
sign_is x y r hx hr s =
    elim s [
      | inl e ↦ ap (with_sign y (x % 2)) (sym hr ∙ e ∙ hx) ∙ sign_same x y
      | inr e ↦
          elim (negative x r hx hr e) [
            | inl f ↦ ap (with_sign y (x % 2)) f ∙ sign_same x y
            | inr f ↦ sign_other x y r hx f.0 f.1
          ]
    ]

-- v x^2 = u on the curve
curve_ring : (e : List ℕ) →
    meaning e (Mul (Add (Mul (Num d) (Mul (Var 1) (Var 1))) (Num 1)) (Mul (Var 0) (Var 0)))
    ≡ meaning e (Add (Sub (Mul (Var 1) (Var 1)) (Num 1)) (Mul (Num (p - 1)) (Sub (Sub (Mul (Var 1) (Var 1)) (Mul (Var 0) (Var 0)))
    (Add (Num 1) (Mul (Num d) (Mul (Mul (Var 0) (Var 0)) (Mul (Var 1) (Var 1))))))))
curve_ring e =
    ring e (Mul (Add (Mul (Num d) (Mul (Var 1) (Var 1))) (Num 1)) (Mul (Var 0) (Var 0)))
    (Add (Sub (Mul (Var 1) (Var 1)) (Num 1)) (Mul (Num (p - 1)) (Sub (Sub (Mul (Var 1) (Var 1)) (Mul (Var 0) (Var 0)))
    (Add (Num 1) (Mul (Num d) (Mul (Mul (Var 0) (Var 0)) (Mul (Var 1) (Var 1)))))))) refl

row_is : (a : Affine) → IsPoint a → on_row a.y (a.x % 2) ≡ Some a
row_is a h =
    let yy = times a.y a.y in
    let u = minus yy 1 in
    let v = plus (times d yy) 1 in
    let is_u : times v (times a.x a.x) ≡ u = curve_ring (a.x ∷ a.y ∷ []) ∙ plus_none u _ (times_none (p - 1) _ (minus_same _ _ h.curve.curve)) ∙
    minus_whole yy 1 in
    let o = outcome u v a.x (minus_whole yy 1) is_u (v_nonzero a.y) in
    ap (with_root a.y (a.x % 2)) o.1 ∙ sign_is a.x a.y o.0 h.x_residue o.2 o.3

small : (x y : ℕ) → y % p ≡ y → y + 2 ^ 255 * (x % 2) < 256 ^ 32
small x y h = omega (arith, h)

low : (x y : ℕ) → y % p ≡ y → (y + 2 ^ 255 * (x % 2)) % 2 ^ 255 ≡ y
low x y h = omega (arith, h)

high : (x y : ℕ) → y % p ≡ y → (y + 2 ^ 255 * (x % 2)) / 2 ^ 255 ≡ x % 2
high x y h = omega (arith, h)

below : (y : ℕ) → y % p ≡ y → y < p
below y h = omega (arith, h)

pub decoded-encoded : (a : Affine) → IsPoint a → decoded (encoded a) ≡ Some a
unfolding decoded
decoded-encoded a h =
    let n = a.y + 2 ^ 255 * (a.x % 2) in
    let is : number (bytes_of 32 n) ≡ n = number_bytes 32 n (small a.x a.y h.y_residue) in
    ap (λ k. if nat_lt (k % 2 ^ 255) p then on_row (k % 2 ^ 255) (k / 2 ^ 255) else None) is
    ∙ ap₂ (λ y s. if nat_lt y p then on_row y s else None) (low a.x a.y h.y_residue) (high a.x a.y h.y_residue)
    ∙ ap (λ b. if b then on_row a.y (a.x % 2) else None) (lt-ltb a.y p (below a.y h.y_residue))
    ∙ row_is a h
