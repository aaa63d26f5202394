-- The counts of std's methods are those of the binary digits.
use Rattle.std.proofs.Common.{◌≡◌, ℕ, zero, suc, ◌+◌, ◌/◌, ◌%◌, ◌^◌, ◌<◌, ◌≤◌, List, [], ◌∷◌, ◌++◌, reverse, length, ap, subst, sym, refl, ◌∙◌, arith, add-one}
use Rattle.std.proofs.Common.{add_comm, length-append, shr_lt}
use Rattle.std.specs.Prelude.{sum}
use Rattle.std.specs.Int.Count.{ones, count_leading_zeros, count_trailing_zeros}
use lib.Count.{ones_step, ones-le, leading_top, leading_le, leading_of_zero, trailing_le, under}
use Rattle.std.proofs.lemmas.List.{reverse-append}
use Rattle.std.proofs.lemmas.List.Sums.{sum_by_push}
use Rattle.wasm_num.specs.Operators.{digits, zeros_before}

half_lt : (k a : ℕ) → a < 2 ^ suc k → a / 2 < 2 ^ k
half_lt k a h = shr_lt k 1 (subst (λ (n : ℕ). a < 2 ^ n) (sym (add-one k)) h)

pub sum-digits : (k a : ℕ) → a < 2 ^ k → ones a ≡ sum (digits k a)
unfolding digits ones
sum-digits zero a h = let e : a ≡ 0 = omega (arith, h) in ap ones e
sum-digits (suc k) a h =
    ones_step a ∙ ap (λ (n : ℕ). a % 2 + n) (sum-digits k (a / 2) (half_lt k a h))
    ∙ add_comm (a % 2) (sum (digits k (a / 2))) ∙ sym (sum_by_push (λ n. n) (digits k (a / 2)) (a % 2))

length-digits : (k a : ℕ) → length (digits k a) ≡ k
unfolding digits
length-digits zero a = refl
length-digits (suc k) a =
    length-append (digits k (a / 2)) (a % 2 ∷ []) ∙ ap (λ (n : ℕ). n + 1) (length-digits k (a / 2)) ∙ add-one k

-- a digit that ends the zeros in front ends them whatever follows
zeros_before-append : (xs ys : List ℕ) → zeros_before xs < length xs → zeros_before (xs ++ ys) ≡ zeros_before xs
zeros_before-append [] ys h = absurd (omega (arith, h))
zeros_before-append (zero ∷ xs) ys h = ap (λ (n : ℕ). n + 1) (zeros_before-append xs ys (omega (arith, h)))
zeros_before-append (suc x ∷ xs) ys h = refl

-- so does a digit after them
zeros_before_one : (xs : List ℕ) (d : ℕ) → zeros_before (xs ++ suc d ∷ []) ≡ zeros_before xs
zeros_before_one [] d = refl
zeros_before_one (zero ∷ xs) d = ap (λ (n : ℕ). n + 1) (zeros_before_one xs d)
zeros_before_one (suc x ∷ xs) d = refl

-- one more zero after zeros
zeros_before_zero : (xs : List ℕ) → zeros_before xs ≡ length xs → zeros_before (xs ++ 0 ∷ []) ≡ length xs + 1
zeros_before_zero [] h = refl
zeros_before_zero (zero ∷ xs) h = let e = zeros_before_zero xs (omega (arith, h)) in omega (arith, e)
zeros_before_zero (suc x ∷ xs) h = absurd (omega (arith, h))

-- the lowest digit of a number above zero makes no zero in front
zeros_before_lowest : (k q d : ℕ) → q < 2 ^ k → 0 < q + d → count_leading_zeros k q ≡ zeros_before (digits k q) →
    zeros_before (digits k q ++ d ∷ []) ≡ zeros_before (digits k q)
zeros_before_lowest k q (suc d) h f e = zeros_before_one (digits k q) d
zeros_before_lowest k q zero h f e =
    zeros_before-append (digits k q) (0 ∷ []) (omega (arith, e, length-digits k q, (leading_top k q (omega (arith, f)) h).1))

pub zeros_before-digits : (k a : ℕ) → a < 2 ^ k → count_leading_zeros k a ≡ zeros_before (digits k a)
unfolding digits count_leading_zeros
zeros_before-digits zero a h = refl
zeros_before-digits (suc k) zero h =
    let e = sym (zeros_before-digits k 0 (half_lt k 0 h)) ∙ leading_of_zero k ∙ sym (length-digits k 0) in
    omega (arith, zeros_before_zero (digits k 0) e, length-digits k 0)
zeros_before-digits (suc k) (suc a) h =
    let e = zeros_before-digits k (suc a / 2) (half_lt k (suc a) h) in
    e ∙ sym (zeros_before_lowest k (suc a / 2) (suc a % 2) (half_lt k (suc a) h) (omega arith) e)

under-is : (d t : ℕ) (ds : List ℕ) → t ≡ zeros_before ds → under d t ≡ zeros_before (d ∷ ds)
under-is zero t ds e = omega (arith, e)
under-is (suc d) t ds e = refl

pub zeros_before-reverse-digits : (k a : ℕ) → count_trailing_zeros k a ≡ zeros_before (reverse (digits k a))
unfolding digits count_trailing_zeros
zeros_before-reverse-digits zero a = refl
zeros_before-reverse-digits (suc k) a =
    under-is (a % 2) (count_trailing_zeros k (a / 2)) (reverse (digits k (a / 2))) (zeros_before-reverse-digits k (a / 2))
    ∙ ap zeros_before (sym (reverse-append (digits k (a / 2)) (a % 2 ∷ [])))

-- ---- a word has no more digits than its type

pub sum_digits_le : (k a : ℕ) → a < 2 ^ k → sum (digits k a) ≤ k
sum_digits_le k a h = subst (λ (n : ℕ). n ≤ k) (sum-digits k a h) (ones-le k a h)

pub zeros_before_digits_le : (k a : ℕ) → a < 2 ^ k → zeros_before (digits k a) ≤ k
zeros_before_digits_le k a h = subst (λ (n : ℕ). n ≤ k) (zeros_before-digits k a h) (leading_le k a)

pub zeros_before_reverse_digits_le : (k a : ℕ) → zeros_before (reverse (digits k a)) ≤ k
zeros_before_reverse_digits_le k a = subst (λ (n : ℕ). n ≤ k) (zeros_before-reverse-digits k a) (trailing_le k a)
