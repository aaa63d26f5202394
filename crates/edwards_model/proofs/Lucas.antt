-- A number n is prime if some g has the order n - 1 modulo n (Lucas), as its powers with exponents n - 1 and
-- (n - 1) / q, for the primes q of n - 1, show.
use Rattle.std.proofs.Common.{◌≡◌, ◌≢◌, ℕ, zero, suc, ◌+◌, ◌-◌, ◌*◌, ◌/◌, ◌%◌, ◌^◌, ◌<◌, ◌≤◌, List, [], ◌∷◌, sym, ap, ◌∙◌, inl, inr, arith}
use Rattle.std.proofs.lemmas.Bool.{cases_eq, cases_lt}
use Rattle.std.proofs.Math.Nat.{mod-lt, mod-eq_of_lt, mul-div_cancel_left, div-add-mod, pow-zero, pow-suc, mul_assoc, mul_comm, zero-mod, mul-mod_right}
use Rattle.std.proofs.lemmas.Nat.{mul-mod_first, mul-mod_second, pow-mod, pow-add}
use Rattle.field25519.proofs.Powers.{pow_product}
use Rattle.edwards_model.specs.Inverses.{IsPrimeByInverses}
use Rattle.edwards_model.proofs.Pigeons.{Injects, surjects}

abbrev pub product : List ℕ → ℕ
product [] = 1
product (q ∷ qs) = q * product qs

abbrev pub Each : (ℕ → Type 0) → List ℕ → Type 0
Each P [] = Unit {0}
Each P (q ∷ qs) = P q × Each P qs

pub each_map : (P Q : ℕ → Type 0) → ((q : ℕ) → P q → Q q) → (qs : List ℕ) → Each P qs → Each Q qs
each_map P Q f [] h = tt
each_map P Q f (q ∷ qs) h = (f q h.0, each_map P Q f qs h.1)

one_pow : (m : ℕ) → 1 ^ m ≡ 1
one_pow zero = pow-zero 1
one_pow (suc m) = pow-suc 1 m ∙ ap (λ x. x * 1) (one_pow m)

-- the powers of a power that is 1
pub pow_one : (n x k m : ℕ) → 1 < n → x ^ k % n ≡ 1 → x ^ (k * m) % n ≡ 1
pow_one n x k m l h =
    ap (λ y. y % n) (sym (pow_product x k m)) ∙ sym (pow-mod (x ^ k) m n) ∙ ap (λ y. y ^ m % n) h ∙ ap (λ y. y % n) (one_pow m) ∙ mod-eq_of_lt l

-- a multiple of q as a product with it
whole : (q k : ℕ) → k % q ≡ 0 → k ≡ q * (k / q)
whole q k h = let e : q * (k / q) + k % q ≡ k = div-add-mod k q in omega (arith, e, h)

module _ (m : ℕ) (above : 1 < m) where
  abbrev Excludes : ℕ → Type 0
  Excludes q = IsPrimeByInverses q × ((h : ℕ) → m ≡ q * h → ⊥)

  -- a prime that divides k m and not m divides k
  divides : (q k r : ℕ) → Excludes q → q * r ≡ k * m → k % q ≡ 0
  divides q k r x e =
      let other : m % q ≢ 0 = λ z. x.1 (m / q) (whole q m z) in
      let v = x.0.inverse m other in
      let through : k * (m * v.0) ≡ q * (r * v.0) =
      sym (mul_assoc k m v.0) ∙ ap (λ y. y * v.0) (sym e) ∙ mul_assoc q r v.0 in
      ap (λ y. y % q) (let one : k ≡ k * 1 = omega arith in one)
      ∙ ap (λ y. k * y % q) (sym v.1) ∙ mul-mod_second k (m * v.0) q ∙ ap (λ y. y % q) through ∙ mul-mod_right q (r * v.0)

  none_divides : (qs : List ℕ) (k : ℕ) → product qs ≡ k * m → Each Excludes qs → ⊥
  none_divides [] zero e x = (let none : 0 * m ≡ 0 = omega arith in omega (arith, e, none))
  none_divides [] (suc k) e x = (let more : suc k * m ≡ k * m + m = omega arith in omega (arith, e, more, above))
  none_divides (q ∷ qs) k e x =
      let j = k / q in
      let split : k ≡ q * j = whole q k (divides q k (product qs) x.0 e) in
      let same : q * product qs ≡ q * (j * m) = e ∙ ap (λ y. y * m) split ∙ mul_assoc q j m in
      let pos : 0 < q = omega (arith, x.0.0.above) in
      let less : product qs ≡ j * m =
      sym (mul-div_cancel_left (product qs) {n = q} pos) ∙ ap (λ y. y / q) same ∙ mul-div_cancel_left (j * m) {n = q} pos in
      none_divides qs j less x.1

module _ (n g N : ℕ) (qs : List ℕ) (above : 1 < n) (one : g ^ N % n ≡ 1) (factors : product qs ≡ N)
    (tests : Each (λ q. IsPrimeByInverses q × (g ^ (N / q) % n ≢ 1)) qs) where
  no_divisor : (k m : ℕ) → 1 < m → N ≡ k * m → g ^ k % n ≡ 1 → ⊥
  no_divisor k m l e h =
      none_divides m l qs k (factors ∙ e)
      (each_map (λ q. IsPrimeByInverses q × (g ^ (N / q) % n ≢ 1)) (λ q. IsPrimeByInverses q × ((j : ℕ) → m ≡ q * j → ⊥))
      (λ q x. (
        x.0,
        λ j f.
            let pos : 0 < q = omega (arith, x.0.above) in
            let turned : k * (q * j) ≡ q * (k * j) = omega arith in
            let quotient : N / q ≡ k * j = ap (λ y. y / q) (e ∙ ap (λ y. k * y) f ∙ turned) ∙ mul-div_cancel_left (k * j) {n = q} pos in
            x.1 (ap (λ y. g ^ y % n) quotient ∙ pow_one n g k j above h),
      ))
      qs tests)

  -- the power with the remainder of the exponent
  remainder : (k : ℕ) → g ^ k % n ≡ 1 → g ^ (N % k) % n ≡ 1
  remainder k h =
      let a = N / k in
      let r = N % k in
      let whole_N : k * a + r ≡ N = div-add-mod N k in
      let split : g ^ N % n ≡ g ^ (k * a) * g ^ r % n = ap (λ y. g ^ y % n) (sym whole_N) ∙ ap (λ y. y % n) (pow-add g (k * a) r) in
      let less : 1 * g ^ r ≡ g ^ r = omega arith in
      sym (split ∙ sym (mul-mod_first (g ^ (k * a)) (g ^ r) n) ∙ ap (λ y. y * g ^ r % n) (pow_one n g k a above h) ∙ ap (λ y. y % n) less) ∙ one

  no_less : (fuel k : ℕ) → k ≤ fuel → 0 < k → k < N → g ^ k % n ≡ 1 → ⊥
  no_less zero k b pos l h = omega (arith, b, pos)
  no_less (suc fuel) k b pos l h =
      elim (cases_eq (N % k) 0) [
        | inl z ↦
            let m = N / k in
            let e : N ≡ k * m = whole k N z in
            elim (cases_lt 1 m) [
              | inl big ↦ no_divisor k m big e h
              | inr small ↦
                  elim (cases_eq m 0) [
                    | inl none ↦ (let f : N ≡ 0 = e ∙ ap (λ y. k * y) none ∙ (let o : k * 0 ≡ 0 = omega arith in o) in omega (arith, f, l))
                    | inr some ↦
                        (let single : m ≡ 1 = omega (arith, small, some) in
                        let f : N ≡ k = e ∙ ap (λ y. k * y) single ∙ (let o : k * 1 ≡ k = omega arith in o) in omega (arith, f, l))
                  ]
            ]
        | inr z ↦
            let r = N % k in
            let below : r < k = mod-lt N pos in
            no_less fuel r (omega (arith, below, b)) (omega (arith, z)) (omega (arith, below, l)) (remainder k h)
      ]

  -- with the exponent that makes N
  rest : (i : ℕ) → i ≤ N → g ^ i * g ^ (N - i) % n ≡ 1
  rest i l = ap (λ y. y % n) (sym (pow-add g i (N - i))) ∙ ap (λ y. g ^ y % n) (let o : i + (N - i) ≡ N = omega (arith, l) in o) ∙ one

  nonzero : (i : ℕ) → i ≤ N → g ^ i % n ≢ 0
  nonzero i l z =
      let none : 0 ≡ 1 =
      sym (zero-mod n) ∙ ap (λ y. y % n) (let o : 0 ≡ 0 * g ^ (N - i) = omega arith in o)
      ∙ ap (λ y. y * g ^ (N - i) % n) (sym z) ∙ mul-mod_first (g ^ i) (g ^ (N - i)) n ∙ rest i l in
      omega (arith, none)

  apart : (i j : ℕ) → i ≤ j → j < N → g ^ i % n ≡ g ^ j % n → i ≡ j
  apart i j l b h =
      let c = j - i in
      let sum : j + (N - i) ≡ N + c = omega (arith, l, b) in
      let up : g ^ j * g ^ (N - i) % n ≡ g ^ c % n =
      ap (λ y. y % n) (sym (pow-add g j (N - i)) ∙ ap (λ y. g ^ y) sum ∙ pow-add g N c)
      ∙ sym (mul-mod_first (g ^ N) (g ^ c) n) ∙ ap (λ y. y * g ^ c % n) one ∙ ap (λ y. y % n) (let o : 1 * g ^ c ≡ g ^ c = omega arith in o) in
      let unit : g ^ c % n ≡ 1 =
      sym up ∙ sym (mul-mod_first (g ^ j) (g ^ (N - i)) n) ∙ ap (λ y. y * g ^ (N - i) % n) (sym h) ∙ mul-mod_first (g ^ i) (g ^ (N - i)) n
      ∙ rest i (omega (arith, l, b)) in
      elim (cases_eq c 0) [
        | inl z ↦ omega (arith, z, l)
        | inr z ↦ absurd (no_less c c (omega arith) (omega (arith, z)) (omega (arith, b)) unit)
      ]

  module _ (is_N : N ≡ n - 1) where
    f : ℕ → ℕ
    f i = g ^ i % n - 1

    at : (i : ℕ) → i < N → g ^ i % n ≡ f i + 1
    unfolding f
    at i l = let o : g ^ i % n ≢ 0 = nonzero i (omega (arith, l)) in omega (arith, o)

    injects : Injects N f
    unfolding f
    injects = record {
      within = λ i l. (let o : g ^ i % n < n = mod-lt (g ^ i) (omega (arith, above)) in let u : g ^ i % n ≢ 0 = nonzero i (omega (arith, l)) in omega
          (arith, o, u, is_N));
      once = λ i j l k e.
          let same : g ^ i % n ≡ g ^ j % n = at i l ∙ ap (λ y. y + 1) e ∙ sym (at j k) in
          elim (cases_lt i j) [
            | inl b ↦ apart i j (omega (arith, b)) k same
            | inr b ↦ sym (apart j i b l (sym same))
          ];
    }

    -- each number is a power of g, but for the multiples of n
    logarithm : (u : ℕ) → u % n ≢ 0 → (i : ℕ) × (i < N) × (g ^ i % n ≡ u % n)
    logarithm u h =
        let below : u % n < n = mod-lt u (omega (arith, above)) in
        let i = surjects N f injects (u % n - 1) (omega (arith, below, h, is_N)) in
        (i.0, i.1, at i.0 i.1 ∙ ap (λ y. y + 1) i.2 ∙ (let o : u % n - 1 + 1 ≡ u % n = omega (arith, h) in o))

    pub is_prime : IsPrimeByInverses n
    is_prime = record {
      above = above;
      inverse = λ u h.
          let i = logarithm u h in (
            g ^ (N - i.0),
            sym (mul-mod_first u (g ^ (N - i.0)) n) ∙ ap (λ y. y * g ^ (N - i.0) % n) (sym i.2) ∙ mul-mod_first (g ^ i.0) (g ^ (N - i.0)) n
                ∙ rest i.0 (omega (arith, i.1)),
          );
      fermat = λ u h.
          let i = logarithm u h in
          ap (λ y. u ^ y % n) (sym is_N) ∙ sym (pow-mod u N n) ∙ ap (λ y. y ^ N % n) (sym i.2) ∙ pow-mod (g ^ i.0) N n
          ∙ ap (λ y. y % n) (pow_product g i.0 N) ∙ ap (λ y. g ^ y % n) (mul_comm i.0 N) ∙ pow_one n g N i.0 above one;
    }
