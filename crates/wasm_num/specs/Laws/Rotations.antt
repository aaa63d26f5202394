-- A rotation as two shifts joined by `or`, and as the bits beyond the width added at the low end.
use Rattle.std.proofs.Common.{◌≡◌, ℕ, zero, suc, ◌+◌, ◌-◌, ◌*◌, ◌/◌, ◌%◌, ◌^◌, ◌<◌, ◌≤◌, bit_or, ap, ap₂, subst, sym, ◌∙◌, arith, add_comm, mod-eq_of_lt}
use Rattle.std.proofs.Common.{mul-one, add-zero, zero-add, mul_comm, mod-lt, pow_pos, pow-add}
use Rattle.std.proofs.lemmas.Nat.{mul-add-lt}
use lib.Bits.{or_shifted, or_comm, or_self}
use lib.Pow.{mod-pow-add, shl-shr, shr-shr, shr_lt}
use Rattle.std.proofs.Math.Nat.{mul-mod_left, mod_self, div-eq_of_lt, div-one, sub-zero}

-- a word of j + k bits, k places up: the low bits of it, and the others
low_bits : (j k a : ℕ) → (a * 2 ^ k) % 2 ^ (j + k) ≡ (a % 2 ^ j) * 2 ^ k
low_bits j k a =
    mod-pow-add (a * 2 ^ k) j k ∙ ap₂ (λ (x y : ℕ). (x % 2 ^ j) * 2 ^ k + y) (shl-shr a k) (mul-mod_left a (2 ^ k)) ∙ add-zero ((a % 2 ^ j) * 2 ^ k)

high_bits : (j k a : ℕ) → (a * 2 ^ k) / 2 ^ (j + k) ≡ a / 2 ^ j
high_bits j k a =
    ap (λ (x : ℕ). (a * 2 ^ k) / 2 ^ x) (add_comm j k) ∙ sym (shr-shr (a * 2 ^ k) k j) ∙ ap (λ (x : ℕ). x / 2 ^ j) (shl-shr a k)

high_bits_lt : (j k a : ℕ) → a < 2 ^ (j + k) → a / 2 ^ j < 2 ^ k
high_bits_lt j k a h = shr_lt k j (subst (λ (x : ℕ). a < 2 ^ x) (add_comm j k) h)

-- by k of j + k places, up
turned : (j k a : ℕ) → a < 2 ^ (j + k) → bit_or ((a * 2 ^ k) % 2 ^ (j + k)) (a / 2 ^ j) ≡ (a * 2 ^ k) % 2 ^ (j + k) + (a * 2 ^ k) / 2 ^ (j + k)
turned j k a h =
    ap (λ (x : ℕ). bit_or x (a / 2 ^ j)) (low_bits j k a) ∙ or_shifted (a % 2 ^ j) k (a / 2 ^ j) (high_bits_lt j k a h)
    ∙ ap₂ (λ (x y : ℕ). x + y) (sym (low_bits j k a)) (sym (high_bits j k a))

turned_lt : (j k a : ℕ) → a < 2 ^ (j + k) → (a * 2 ^ k) % 2 ^ (j + k) + (a * 2 ^ k) / 2 ^ (j + k) < 2 ^ (j + k)
turned_lt j k a h =
    subst (λ (x : ℕ). x < 2 ^ (j + k)) (ap₂ (λ (x y : ℕ). x + y) (sym (low_bits j k a)) (sym (high_bits j k a)))
    (subst (λ (x : ℕ). (a % 2 ^ j) * 2 ^ k + a / 2 ^ j < x) (mul_comm (2 ^ k) (2 ^ j) ∙ sym (pow-add 2 j k))
    (mul-add-lt (a % 2 ^ j) (2 ^ k) (a / 2 ^ j) (2 ^ j) (mod-lt a (pow_pos j)) (high_bits_lt j k a h)))

-- what comes round stays within the width
pub around_lt : (n k a : ℕ) → k ≤ n → a < 2 ^ n → (a * 2 ^ k) % 2 ^ n + (a * 2 ^ k) / 2 ^ n < 2 ^ n
around_lt n k a h f =
    let e : n - k + k ≡ n = omega (arith, h) in
    subst (λ (m : ℕ). (a * 2 ^ k) % 2 ^ m + (a * 2 ^ k) / 2 ^ m < 2 ^ m) e (turned_lt (n - k) k a (subst (λ (m : ℕ). a < 2 ^ m) (sym e) f))

-- by k of n places, of which j are left
turned_of : (n j k a : ℕ) → j + k ≡ n → a < 2 ^ n → bit_or ((a * 2 ^ k) % 2 ^ n) (a / 2 ^ j) ≡ (a * 2 ^ k) % 2 ^ n + (a * 2 ^ k) / 2 ^ n
turned_of n j k a e h =
    subst (λ (m : ℕ). bit_or ((a * 2 ^ k) % 2 ^ m) (a / 2 ^ j) ≡ (a * 2 ^ k) % 2 ^ m + (a * 2 ^ k) / 2 ^ m) e
    (turned j k a (subst (λ (m : ℕ). a < 2 ^ m) (sym e) h))

-- all n places are none
no_place : (n : ℕ) → (n - 0) % n ≡ 0
no_place n = ap (λ (m : ℕ). m % n) (sub-zero n) ∙ mod_self n

pub or-rotated_left : (n k a : ℕ) → k < n → a < 2 ^ n → bit_or ((a * 2 ^ k) % 2 ^ n) (a / 2 ^ ((n - k) % n)) ≡ (a * 2 ^ k) % 2 ^ n + (a * 2 ^ k) / 2 ^ n
or-rotated_left n zero a h f =
    let low : (a * 1) % 2 ^ n ≡ a = ap (λ (x : ℕ). x % 2 ^ n) (mul-one a) ∙ mod-eq_of_lt f in
    let high : (a * 1) / 2 ^ n ≡ 0 = ap (λ (x : ℕ). x / 2 ^ n) (mul-one a) ∙ div-eq_of_lt f in
    ap₂ bit_or low (ap (λ (j : ℕ). a / 2 ^ j) (no_place n) ∙ div-one a) ∙ or_self a
    ∙ sym (ap₂ (λ (x y : ℕ). x + y) low high ∙ add-zero a)
or-rotated_left n (suc k) a h f =
    ap (λ (j : ℕ). bit_or ((a * 2 ^ suc k) % 2 ^ n) (a / 2 ^ j)) (mod-eq_of_lt (omega (arith, h)))
    ∙ turned_of n (n - suc k) (suc k) a (omega (arith, h)) f

pub or-rotated_right : (n k a : ℕ) → k < n → a < 2 ^ n →
    bit_or (a / 2 ^ k) ((a * 2 ^ ((n - k) % n)) % 2 ^ n) ≡ (a * 2 ^ (n - k)) % 2 ^ n + (a * 2 ^ (n - k)) / 2 ^ n
or-rotated_right n zero a h f =
    let word : (a * 2 ^ ((n - 0) % n)) % 2 ^ n ≡ a =
    ap (λ (j : ℕ). (a * 2 ^ j) % 2 ^ n) (no_place n) ∙ ap (λ (x : ℕ). x % 2 ^ n) (mul-one a) ∙ mod-eq_of_lt f in
    let low : (a * 2 ^ (n - 0)) % 2 ^ n ≡ 0 = ap (λ (j : ℕ). (a * 2 ^ j) % 2 ^ n) (sub-zero n) ∙ mul-mod_left a (2 ^ n) in
    let high : (a * 2 ^ (n - 0)) / 2 ^ n ≡ a = ap (λ (j : ℕ). (a * 2 ^ j) / 2 ^ n) (sub-zero n) ∙ shl-shr a n in
    ap₂ bit_or (div-one a) word ∙ or_self a ∙ sym (ap₂ (λ (x y : ℕ). x + y) low high ∙ zero-add a)
or-rotated_right n (suc k) a h f =
    ap (λ (j : ℕ). bit_or (a / 2 ^ suc k) ((a * 2 ^ j) % 2 ^ n)) (mod-eq_of_lt (omega (arith, h)))
    ∙ or_comm (a / 2 ^ suc k) ((a * 2 ^ (n - suc k)) % 2 ^ n)
    ∙ turned_of n (suc k) (n - suc k) a (omega (arith, h)) f
