-- Residues that are not zero have inverses, and d is no square.
use Rattle.std.proofs.Common.{◌≡◌, ◌≢◌, ℕ, ◌-◌, ◌*◌, ◌/◌, ◌%◌, ◌^◌, List, [], ◌∷◌, lit<, refl, sym, ap, ◌∙◌, inl, inr, arith}
use Rattle.std.proofs.lemmas.Bool.{cases_eq}
use Rattle.std.proofs.Math.Nat.{mod-mod, pow-suc, mul_comm}
use Rattle.std.proofs.lemmas.Nat.{mul-mod_first, mul-mod_second}
use Rattle.field25519.specs.Modulo.{p, times, power}
use Rattle.edwards_model.specs.Curve.{d}
use Rattle.edwards_model.proofs.Primality.{p_is_prime, fast, halved, fast_is}
use Rattle.edwards_model.proofs.Ring.{Var, Num, Mul, ring}

pub times_whole : (x y : ℕ) → times x y % p ≡ times x y
unfolding times
times_whole x y = mod-mod (x * y) p

pub times_zero : (x y : ℕ) → y % p ≡ 0 → times x y ≡ 0
unfolding times
times_zero x y h = sym (mul-mod_second x y p) ∙ ap (λ z. x * z % p) h ∙ (let none : x * 0 % p ≡ 0 = omega arith in none)

pub times_one : (x y : ℕ) → y ≡ 1 → times x y ≡ x % p
unfolding times
times_one x y h = ap (λ z. x * z % p) h ∙ ap (λ z. z % p) (let o : x * 1 ≡ x = omega arith in o)

pub times_residue_left : (x y : ℕ) → times (x % p) y ≡ times x y
unfolding times
times_residue_left x y = mul-mod_first x y p

pub inverse : (u : ℕ) → u % p ≢ 0 → (v : ℕ) × (times u v ≡ 1)
unfolding times
inverse u h = p_is_prime.inverse u h

pub power_inverse : (u : ℕ) → u % p ≢ 0 → times u (power u (p - 2)) ≡ 1
unfolding times power
power_inverse u h =
    mul-mod_second u (u ^ (p - 2)) p ∙ ap (λ y. y % p) (mul_comm u (u ^ (p - 2)) ∙ sym (pow-suc u (p - 2))) ∙ p_is_prime.fermat u h

-- a factor that is not zero is taken away
pub cancel : (u x y : ℕ) → u % p ≢ 0 → times u x ≡ times u y → x % p ≡ y % p
cancel u x y h e =
    let v = inverse u h in
    let turn : (z : ℕ) → times (times u z) v.0 ≡ z % p = λ z.
    ring (u ∷ z ∷ v.0 ∷ []) (Mul (Mul (Var 0) (Var 1)) (Var 2)) (Mul (Var 1) (Mul (Var 0) (Var 2))) refl ∙ times_one z (times u v.0) v.1 in
    sym (turn x) ∙ ap (λ z. times z v.0) e ∙ turn y

pub zero_factor : (x y : ℕ) → times x y ≡ 0 → x % p ≢ 0 → y % p ≡ 0
zero_factor x y e h = cancel x y 0 h (e ∙ sym (times_zero x 0 refl))

pub nonzero_product : (x y : ℕ) → x % p ≢ 0 → y % p ≢ 0 → times x y % p ≢ 0
nonzero_product x y h k e = k (zero_factor x y (sym (times_whole x y) ∙ e) h)

apart : p - 1 ≡ 1 → ⊥
apart h = omega (arith, h)

-- d is no square, since its power with exponent (p - 1) / 2 is not 1
no_root : (c : ℕ) → times c c ≡ d → c % p ≢ 0 → ⊥
unfolding times
no_root c h n =
    let half = (p - 1) / 2 in
    let one : d ^ half % p ≡ 1 = ap (λ y. y ^ half % p) (sym h) ∙ halved p c half ∙ p_is_prime.fermat c n in
    let other : fast p 254 d half ≡ p - 1 = refl in
    let same : p - 1 ≡ 1 = sym other ∙ fast_is p 254 d half (lit< tt) ∙ one in
    apart same

d_square : (c : ℕ) → times c c ≡ d → c % p ≡ 0 → ⊥
unfolding times
d_square c h z =
    let none : c * c % p ≡ 0 = sym (mul-mod_second c c p) ∙ ap (λ y. c * y % p) z ∙ (let o : c * 0 % p ≡ 0 = omega arith in o) in
    let bad : d ≡ 0 = sym h ∙ none in
    omega (arith, bad)

one_squared : times d (times 1 1) ≡ d
unfolding times
one_squared = refl

pub no_square : (a b : ℕ) → times a a ≡ times d (times b b) → b % p ≡ 0
no_square a b h =
    elim (cases_eq (b % p) 0) [
      | inl z ↦ z
      | inr n ↦
          let v = inverse b n in
          let e : List ℕ = a ∷ b ∷ v.0 ∷ [] in
          let c = times a v.0 in
          let square : times c c ≡ d =
          ring e (Mul (Mul (Var 0) (Var 2)) (Mul (Var 0) (Var 2))) (Mul (Mul (Var 0) (Var 0)) (Mul (Var 2) (Var 2))) refl
          ∙ ap (λ y. times y (times v.0 v.0)) h
          ∙ ring e (Mul (Mul (Num d) (Mul (Var 1) (Var 1))) (Mul (Var 2) (Var 2))) (Mul (Num d) (Mul (Mul (Var 1) (Var 2)) (Mul (Var 1) (Var 2)))) refl
          ∙ ap (λ y. times d (times y y)) v.1 ∙ one_squared in
          elim (cases_eq (c % p) 0) [ inl z ↦ absurd (d_square c square z) | inr m ↦ absurd (no_root c square m) ]
    ]
