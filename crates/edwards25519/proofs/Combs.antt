-- The digits of a number in the four teeth of the comb.
use Rattle.std.proofs.Common.{◌≡◌, ℕ, zero, suc, ◌+◌, ◌*◌, ◌/◌, ◌%◌, ◌^◌, ◌<◌, refl, sym, ap, ap₂, ◌∙◌, arith, add-one}
use Rattle.std.proofs.Math.Nat.{pow-zero, pow-suc, div-div-eq-div-mul, mul_comm}
use Rattle.edwards_model.specs.Curve.{Affine, sum, neutral, base, multiple}
use Rattle.edwards_model.proofs.Group.{base_is, multiple_sum}
use Rattle.edwards25519.specs.Comb.{tooth}

-- the digits of a window
digits : (m : ℕ) → m % 16 + 16 * (m / 16 % 16) + 256 * (m / 16 / 16 % 16) + 4096 * (m / 16 / 16 / 16 % 16) + 65536 * (m / 65536) ≡ m
digits m = omega arith

regroup : (t0 t1 t2 t3 d0 d1 d2 d3 q x : ℕ) →
    16 * (16 * (16 * (t3 + x * d3) + (t2 + x * d2)) + (t1 + x * d1)) + (t0 + x * d0) + x * 65536 * q
    ≡ 16 * (16 * (16 * t3 + t2) + t1) + t0 + x * (d0 + 16 * d1 + 256 * d2 + 4096 * d3 + 65536 * q)
regroup t0 t1 t2 t3 d0 d1 d2 d3 q x = omega arith

abbrev pub comb : ℕ → ℕ → ℕ
comb w n = 16 * (16 * (16 * tooth w (n / 16 / 16 / 16) + tooth w (n / 16 / 16)) + tooth w (n / 16)) + tooth w n

-- a quotient of a quotient
turned : (n k x m : ℕ) → n / x ≡ m → n / k / x ≡ m / k
turned n k x m h =
    div-div-eq-div-mul n k x ∙ ap (λ j. n / j) (mul_comm k x) ∙ sym (div-div-eq-div-mul n x k) ∙ ap (λ j. j / k) h

comb_and_rest : (w n : ℕ) → comb w n + 65536 ^ w * (n / 65536 ^ w) ≡ n
unfolding tooth
comb_and_rest zero n = ap (λ x. 0 + x * (n / x)) (pow-zero 65536) ∙ (let o : 0 + 1 * (n / 1) ≡ n = omega arith in o)
comb_and_rest (suc w) n =
    let x = 65536 ^ w in
    let m = n / x in
    let e1 : n / 16 / x ≡ m / 16 = turned n 16 x m refl in
    let e2 : n / 16 / 16 / x ≡ m / 16 / 16 = turned (n / 16) 16 x (m / 16) e1 in
    let e3 : n / 16 / 16 / 16 / x ≡ m / 16 / 16 / 16 = turned (n / 16 / 16) 16 x (m / 16 / 16) e2 in
    let next : 65536 ^ suc w ≡ x * 65536 = pow-suc 65536 w in
    let last : n / (x * 65536) ≡ m / 65536 = sym (div-div-eq-div-mul n x 65536) in
    rw (e1, e2, e3, next, last)
    (regroup (tooth w n) (tooth w (n / 16)) (tooth w (n / 16 / 16)) (tooth w (n / 16 / 16 / 16)) (m % 16) (m / 16 % 16) (m / 16 / 16 % 16) (m / 16 /
    16 / 16 % 16) (m / 65536) x
    ∙ ap (λ z. comb w n + x * z) (digits m) ∙ comb_and_rest w n)

-- the comb has all of a number
pub comb_is : (n : ℕ) → n < 2 ^ 256 → comb 16 n ≡ n
comb_is n h =
    let none : n / 65536 ^ 16 ≡ 0 = omega (arith, h) in
    (let o : comb 16 n ≡ comb 16 n + 65536 ^ 16 * 0 = omega arith in o) ∙ ap (λ q. comb 16 n + 65536 ^ 16 * q) (sym none) ∙ comb_and_rest 16 n

-- ---- the windows of a tooth, one after another
pub first_rest : (n : ℕ) → n ≡ n / 65536 ^ 0
first_rest n = (let o : n ≡ n / 1 = omega arith in o) ∙ ap (λ x. n / x) (sym (pow-zero 65536))

pub first_sum : (n : ℕ) → neutral ≡ multiple (tooth 0 n) base
unfolding tooth multiple
first_sum n = refl

pub next_rest : (w n r : ℕ) → r ≡ n / 65536 ^ w → r / 65536 ≡ n / 65536 ^ (w + 1)
next_rest w n r e =
    ap (λ k. k / 65536) e ∙ div-div-eq-div-mul n (65536 ^ w) 65536 ∙ ap (λ x. n / x) (sym (ap (λ k. 65536 ^ k) (add-one w) ∙ pow-suc 65536 w))

pub next_sum : (w n r digit : ℕ) (s : Affine) → r ≡ n / 65536 ^ w → digit ≡ r % 16 → s ≡ multiple (tooth w n) base →
    sum s (multiple (65536 ^ w * digit) base) ≡ multiple (tooth (w + 1) n) base
unfolding tooth
next_sum w n r digit s e f g =
    ap₂ (λ a k. sum a (multiple (65536 ^ w * k) base)) g (f ∙ ap (λ k. k % 16) e)
    ∙ sym (multiple_sum base base_is (tooth w n) (65536 ^ w * (n / 65536 ^ w % 16))) ∙ ap (λ k. multiple (tooth k n) base) (sym (add-one w))
