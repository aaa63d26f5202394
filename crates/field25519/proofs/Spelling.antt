-- Bytes of a number, from its high end and from its low end.
use Rattle.std.proofs.Common.{◌≡◌, ℕ, suc, ◌+◌, ◌-◌, ◌*◌, ◌/◌, ◌%◌, ◌^◌, ◌<◌, ◌≤◌, List, [], ◌∷◌, ◌++◌}
use Rattle.std.proofs.Common.{length, take, drop, get_or, set, sym, ap, ◌∙◌, arith, append_assoc, add-one}
use Rattle.std.proofs.Math.Seq.{drop-cons, take-suc-set}
use Rattle.std.proofs.lemmas.List.{drop_all, take_all, append-nil}
use Rattle.std.proofs.Math.Nat.{pow-le-pow_right, pow-suc}
use Rattle.field25519.specs.Bytes.{number, bytes_of}

-- one byte more from the high end
pub number_more : (xs : List ℕ) (j : ℕ) → j < length xs → number (drop j xs) ≡ get_or xs j 0 + 256 * number (drop (suc j) xs)
number_more xs j h = ap number (drop-cons xs j 0 h)

pub number_step : (xs : List ℕ) (k n : ℕ) → length xs ≡ 32 → k < 32 → n ≡ number (drop (32 - k) xs) →
    get_or xs (31 - k) 0 + 256 * n ≡ number (drop (32 - (k + 1)) xs)
number_step xs k n l h e =
    let next : suc (31 - k) ≡ 32 - k = omega arith in
    let here : 31 - k ≡ 32 - (k + 1) = omega arith in
    ap (λ m. get_or xs (31 - k) 0 + 256 * m) (e ∙ ap (λ j. number (drop j xs)) (sym next))
    ∙ sym (number_more xs (31 - k) (omega arith))
    ∙ ap (λ j. number (drop j xs)) here

pub below_step : (k n b : ℕ) → b < 256 → n < 256 ^ k → b + 256 * n < 256 ^ (k + 1)
below_step k n b h l = rw (add-one, pow-suc) (omega (arith, h, l))

pub below_most : (k n : ℕ) → k < 32 → n < 256 ^ k → n < 2 ^ 248
below_most k n h l =
    let most : 256 ^ k ≤ 256 ^ 31 = pow-le-pow_right {n = 256} (omega arith) {i = k} {j = 31} (omega arith) in
    omega (arith, l, most)

-- one byte more from the low end
pub bytes_step : (xs : List ℕ) (k n m : ℕ) → length xs ≡ 32 → k < 32 →
    take k xs ++ bytes_of (32 - k) n ≡ bytes_of 32 m →
    take (k + 1) (set xs k (n % 256)) ++ bytes_of (32 - (k + 1)) (n / 256) ≡ bytes_of 32 m
unfolding bytes_of
bytes_step xs k n m l h e =
    let next : suc (32 - (k + 1)) ≡ 32 - k = omega arith in
    let inside : k < length xs = omega arith in
    rw add-one
    (ap (λ ys. ys ++ bytes_of (32 - suc k) (n / 256)) (take-suc-set xs k (n % 256) inside)
    ∙ append_assoc (take k xs) (n % 256 ∷ []) (bytes_of (32 - suc k) (n / 256))
    ∙ ap (λ j. take k xs ++ bytes_of j n) (rw add-one at next)
    ∙ e)

pub number_none : (k : ℕ) (xs : List ℕ) → length xs ≤ k → number (drop k xs) ≡ 0
number_none k xs h = ap number (drop_all k xs h)

pub bytes_all : (xs : List ℕ) (k n m : ℕ) → length xs ≡ 32 → k ≡ 32 → take k xs ++ bytes_of (32 - k) n ≡ bytes_of 32 m → xs ≡ bytes_of 32 m
unfolding bytes_of
bytes_all xs k n m l h e =
    let all : length xs ≤ k = omega arith in
    let none : 32 - k ≡ 0 = omega (arith, h) in
    sym (append-nil xs) ∙ ap (λ ys. ys ++ []) (sym (take_all k xs all)) ∙ ap (λ j. take k xs ++ bytes_of j n) (sym none) ∙ e
