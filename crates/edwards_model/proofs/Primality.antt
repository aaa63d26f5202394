-- p is prime: a table of primes, each with a number of the order n - 1 and the primes of n - 1, which stand above it.
use Rattle.std.proofs.Common.{◌≡◌, ◌≢◌, ℕ, zero, suc, ◌+◌, ◌-◌, ◌*◌, ◌/◌, ◌%◌, ◌^◌, ◌<◌, Bool, true, false, cond, List, [], ◌∷◌, ◌⊎◌, refl, sym, ap}
use Rattle.std.proofs.Common.{◌∙◌, subst, inl, inr, arith}
use Rattle.std.specs.Prelude.{nat_eq, nat_lt, ◌&&◌, ◌||◌, not}
use Rattle.std.proofs.lemmas.Bool.{eqb-true, eqb-false}
use Rattle.std.proofs.lemmas.Bool.Decides.{nat_tests}
use Rattle.std.proofs.Math.Nat.{pow-zero, pow-suc, mul_comm, div-le_self}
use Rattle.std.proofs.lemmas.Nat.{mul-mod_second, pow-mod}
use Rattle.field25519.specs.Modulo.{p}
use Rattle.field25519.proofs.Powers.{pow_product, pow_square}
use Rattle.edwards_model.specs.Curve.{order}
use Rattle.edwards_model.specs.Inverses.{IsPrimeByInverses}
use Rattle.edwards_model.proofs.Ring.{and_left, and_right}
use Rattle.edwards_model.proofs.Lucas.{product, Each, is_prime}

-- x^k modulo n, by squaring
abbrev pub fast : ℕ → ℕ → ℕ → ℕ → ℕ
fast n zero x k = 1 % n
fast n (suc bits) x k = let rest = fast n bits (x * x % n) (k / 2) in cond (nat_eq (k % 2) 1) (x * rest % n) rest

pub halved : (n x h : ℕ) → (x * x % n) ^ h % n ≡ x ^ (2 * h) % n
halved n x h = pow-mod (x * x) h n ∙ ap (λ y. y ^ h % n) (sym (pow_square x)) ∙ ap (λ y. y % n) (pow_product x 2 h)

odd_next : (n x h r : ℕ) → r ≡ x ^ (2 * h) % n → x * r % n ≡ x ^ (2 * h + 1) % n
odd_next n x h r e =
    let one_more : 2 * h + 1 ≡ suc (2 * h) = omega arith in
    ap (λ y. x * y % n) e ∙ mul-mod_second x (x ^ (2 * h)) n
    ∙ ap (λ y. y % n) (mul_comm x (x ^ (2 * h)) ∙ sym (pow-suc x (2 * h))) ∙ ap (λ j. x ^ j % n) (sym one_more)

choose : (n x k m r : ℕ) (b : Bool) → nat_eq (k % 2) 1 ≡ b → k ≡ 2 * m + k % 2 → r ≡ x ^ (2 * m) % n → cond b (x * r % n) r ≡ x ^ k % n
choose n x k m r true e h g =
    let odd : k % 2 ≡ 1 = eqb-true (k % 2) 1 e in
    odd_next n x m r g ∙ ap (λ j. x ^ j % n) (ap (λ l. 2 * m + l) (sym odd) ∙ sym h)
choose n x k m r false e h g =
    let other : k % 2 ≢ 1 = eqb-false (k % 2) 1 e in
    let even : 2 * m ≡ k = omega (arith, h, other) in
    g ∙ ap (λ j. x ^ j % n) even

pub fast_is : (n bits x k : ℕ) → k < 2 ^ bits → fast n bits x k ≡ x ^ k % n
fast_is n zero x k h =
    let none : 0 ≡ k = omega (arith, h, pow-zero 2) in
    ap (λ y. y % n) (sym (pow-zero x)) ∙ ap (λ j. x ^ j % n) none
fast_is n (suc bits) x k h =
    let m = k / 2 in
    let double : 2 ^ suc bits ≡ 2 ^ bits * 2 = pow-suc 2 bits in
    let rest : fast n bits (x * x % n) m ≡ x ^ (2 * m) % n = fast_is n bits (x * x % n) m (omega (arith, h, double)) ∙ halved n x m in
    choose n x k m (fast n bits (x * x % n) m) (nat_eq (k % 2) 1) refl (omega arith) rest

record Row : Type 0 where
  pub n : ℕ
  pub g : ℕ
  pub bits : ℕ
  pub factors : List ℕ

abbrev contains : List ℕ → ℕ → Bool
contains [] q = false
contains (x ∷ xs) q = nat_eq x q || contains xs q

abbrev are_factors : List ℕ → Row → List ℕ → Bool
are_factors known r [] = true
are_factors known r (q ∷ qs) = contains known q && (not (nat_eq (fast r.n r.bits r.g ((r.n - 1) / q)) 1) && are_factors known r qs)

abbrev is_row : List ℕ → Row → Bool
is_row known r =
    nat_lt 1 r.n && (nat_lt (r.n - 1) (2 ^ r.bits) && (nat_eq (product r.factors) (r.n - 1)
    && (nat_eq (fast r.n r.bits r.g (r.n - 1)) 1 && are_factors known r r.factors)))

abbrev are_rows : List ℕ → List Row → Bool
are_rows known [] = true
are_rows known (r ∷ rs) = is_row known r && are_rows (r.n ∷ known) rs

abbrev after : List ℕ → List Row → List ℕ
after known [] = known
after known (r ∷ rs) = after (r.n ∷ known) rs

either : (a b : Bool) → a || b ≡ true → (a ≡ true) ⊎ (b ≡ true)
either true b h = inl refl
either false b h = inr h

not_true : (a : Bool) → not a ≡ true → a ≡ false
not_true true h = cc
not_true false h = refl

below : (a b : ℕ) → nat_lt a b ≡ true → a < b
below a b h = grind (arith, nat_tests, h)

known_is : (known : List ℕ) (q : ℕ) → Each IsPrimeByInverses known → contains known q ≡ true → IsPrimeByInverses q
known_is [] q a h = cc
known_is (x ∷ xs) q a h = elim (either (nat_eq x q) (contains xs q) h) [ inl e ↦ subst IsPrimeByInverses (eqb-true x q e) a.0 | inr e ↦ known_is xs q a.1 e ]

factors_are : (known : List ℕ) (r : Row) → r.n - 1 < 2 ^ r.bits → Each IsPrimeByInverses known → (qs : List ℕ) → are_factors known r qs ≡ true →
    Each (λ q. IsPrimeByInverses q × (r.g ^ ((r.n - 1) / q) % r.n ≢ 1)) qs
factors_are known r b a [] h = tt
factors_are known r b a (q ∷ qs) h =
    let more = and_right (contains known q) _ h in
    let small : (r.n - 1) / q < 2 ^ r.bits = (let e = div-le_self (r.n - 1) q in omega (arith, b, e)) in
    let test = eqb-false (fast r.n r.bits r.g ((r.n - 1) / q)) 1 (not_true _ (and_left _ _ more)) in
    ((known_is known q a (and_left _ _ h), λ e. test (fast_is r.n r.bits r.g ((r.n - 1) / q) small ∙ e)), factors_are known r b a qs (and_right _ _ more))

row_is : (known : List ℕ) (r : Row) → Each IsPrimeByInverses known → is_row known r ≡ true → IsPrimeByInverses r.n
row_is known r a h =
    let rest = and_right (nat_lt 1 r.n) _ h in
    let bits = below (r.n - 1) (2 ^ r.bits) (and_left _ _ rest) in
    let rest2 = and_right (nat_lt (r.n - 1) (2 ^ r.bits)) _ rest in
    let rest3 = and_right (nat_eq (product r.factors) (r.n - 1)) _ rest2 in
    is_prime r.n r.g (r.n - 1) r.factors (below 1 r.n (and_left _ _ h))
    (sym (fast_is r.n r.bits r.g (r.n - 1) bits) ∙ eqb-true _ 1 (and_left _ _ rest3))
    (eqb-true _ _ (and_left _ _ rest2)) (factors_are known r bits a r.factors (and_right _ _ rest3)) refl

rows_are : (known : List ℕ) (rs : List Row) → Each IsPrimeByInverses known → are_rows known rs ≡ true → Each IsPrimeByInverses (after known rs)
rows_are known [] a h = a
rows_are known (r ∷ rs) a h = rows_are (r.n ∷ known) rs (row_is known r a (and_left _ _ h), a) (and_right _ _ h)

two : IsPrimeByInverses 2
two = record {
  above = omega arith;
  inverse = λ u h. (1, (let o : u * 1 % 2 ≡ 1 = omega (arith, h) in o));
  fermat = λ u h. pow_first u ∙ (let o : u % 2 ≡ 1 = omega (arith, h) in o);
}
  where
    pow_first : (u : ℕ) → u ^ (2 - 1) % 2 ≡ u % 2
    pow_first u = ap (λ y. y % 2) (pow-suc u 0 ∙ ap (λ y. y * u) (pow-zero u) ∙ (let o : 1 * u ≡ u = omega arith in o))

abbrev rows : List Row
rows =
    record { n = 3; g = 2; bits = 2; factors = 2 ∷ [] } ∷
    record { n = 5; g = 2; bits = 3; factors = 2 ∷ 2 ∷ [] } ∷
    record { n = 7; g = 3; bits = 3; factors = 2 ∷ 3 ∷ [] } ∷
    record { n = 11; g = 2; bits = 4; factors = 2 ∷ 5 ∷ [] } ∷
    record { n = 13; g = 2; bits = 4; factors = 2 ∷ 2 ∷ 3 ∷ [] } ∷
    record { n = 17; g = 3; bits = 5; factors = 2 ∷ 2 ∷ 2 ∷ 2 ∷ [] } ∷
    record { n = 19; g = 2; bits = 5; factors = 2 ∷ 3 ∷ 3 ∷ [] } ∷
    record { n = 23; g = 5; bits = 5; factors = 2 ∷ 11 ∷ [] } ∷
    record { n = 29; g = 2; bits = 5; factors = 2 ∷ 2 ∷ 7 ∷ [] } ∷
    record { n = 31; g = 3; bits = 5; factors = 2 ∷ 3 ∷ 5 ∷ [] } ∷
    record { n = 37; g = 2; bits = 6; factors = 2 ∷ 2 ∷ 3 ∷ 3 ∷ [] } ∷
    record { n = 41; g = 6; bits = 6; factors = 2 ∷ 2 ∷ 2 ∷ 5 ∷ [] } ∷
    record { n = 43; g = 3; bits = 6; factors = 2 ∷ 3 ∷ 7 ∷ [] } ∷
    record { n = 47; g = 5; bits = 6; factors = 2 ∷ 23 ∷ [] } ∷
    record { n = 53; g = 2; bits = 6; factors = 2 ∷ 2 ∷ 13 ∷ [] } ∷
    record { n = 59; g = 2; bits = 6; factors = 2 ∷ 29 ∷ [] } ∷
    record { n = 67; g = 2; bits = 7; factors = 2 ∷ 3 ∷ 11 ∷ [] } ∷
    record { n = 73; g = 5; bits = 7; factors = 2 ∷ 2 ∷ 2 ∷ 3 ∷ 3 ∷ [] } ∷
    record { n = 79; g = 3; bits = 7; factors = 2 ∷ 3 ∷ 13 ∷ [] } ∷
    record { n = 83; g = 2; bits = 7; factors = 2 ∷ 41 ∷ [] } ∷
    record { n = 97; g = 5; bits = 7; factors = 2 ∷ 2 ∷ 2 ∷ 2 ∷ 2 ∷ 3 ∷ [] } ∷
    record { n = 103; g = 5; bits = 7; factors = 2 ∷ 3 ∷ 17 ∷ [] } ∷
    record { n = 107; g = 2; bits = 7; factors = 2 ∷ 53 ∷ [] } ∷
    record { n = 113; g = 3; bits = 7; factors = 2 ∷ 2 ∷ 2 ∷ 2 ∷ 7 ∷ [] } ∷
    record { n = 127; g = 3; bits = 7; factors = 2 ∷ 3 ∷ 3 ∷ 7 ∷ [] } ∷
    record { n = 131; g = 2; bits = 8; factors = 2 ∷ 5 ∷ 13 ∷ [] } ∷
    record { n = 173; g = 2; bits = 8; factors = 2 ∷ 2 ∷ 43 ∷ [] } ∷
    record { n = 223; g = 3; bits = 8; factors = 2 ∷ 3 ∷ 37 ∷ [] } ∷
    record { n = 239; g = 7; bits = 8; factors = 2 ∷ 7 ∷ 17 ∷ [] } ∷
    record { n = 269; g = 2; bits = 9; factors = 2 ∷ 2 ∷ 67 ∷ [] } ∷
    record { n = 307; g = 5; bits = 9; factors = 2 ∷ 3 ∷ 3 ∷ 17 ∷ [] } ∷
    record { n = 353; g = 3; bits = 9; factors = 2 ∷ 2 ∷ 2 ∷ 2 ∷ 2 ∷ 11 ∷ [] } ∷
    record { n = 419; g = 2; bits = 9; factors = 2 ∷ 11 ∷ 19 ∷ [] } ∷
    record { n = 479; g = 13; bits = 9; factors = 2 ∷ 239 ∷ [] } ∷
    record { n = 487; g = 3; bits = 9; factors = 2 ∷ 3 ∷ 3 ∷ 3 ∷ 3 ∷ 3 ∷ [] } ∷
    record { n = 991; g = 6; bits = 10; factors = 2 ∷ 3 ∷ 3 ∷ 5 ∷ 11 ∷ [] } ∷
    record { n = 1361; g = 3; bits = 11; factors = 2 ∷ 2 ∷ 2 ∷ 2 ∷ 5 ∷ 17 ∷ [] } ∷
    record { n = 1723; g = 3; bits = 11; factors = 2 ∷ 3 ∷ 7 ∷ 41 ∷ [] } ∷
    record { n = 2437; g = 2; bits = 12; factors = 2 ∷ 2 ∷ 3 ∷ 7 ∷ 29 ∷ [] } ∷
    record { n = 2551; g = 6; bits = 12; factors = 2 ∷ 3 ∷ 5 ∷ 5 ∷ 17 ∷ [] } ∷
    record { n = 2851; g = 2; bits = 12; factors = 2 ∷ 3 ∷ 5 ∷ 5 ∷ 19 ∷ [] } ∷
    record { n = 2939; g = 2; bits = 12; factors = 2 ∷ 13 ∷ 113 ∷ [] } ∷
    record { n = 3727; g = 3; bits = 12; factors = 2 ∷ 3 ∷ 3 ∷ 3 ∷ 3 ∷ 23 ∷ [] } ∷
    record { n = 3797; g = 2; bits = 12; factors = 2 ∷ 2 ∷ 13 ∷ 73 ∷ [] } ∷
    record { n = 4153; g = 5; bits = 13; factors = 2 ∷ 2 ∷ 2 ∷ 3 ∷ 173 ∷ [] } ∷
    record { n = 5879; g = 11; bits = 13; factors = 2 ∷ 2939 ∷ [] } ∷
    record { n = 9463; g = 3; bits = 14; factors = 2 ∷ 3 ∷ 19 ∷ 83 ∷ [] } ∷
    record { n = 17231; g = 13; bits = 15; factors = 2 ∷ 5 ∷ 1723 ∷ [] } ∷
    record { n = 22111; g = 6; bits = 15; factors = 2 ∷ 3 ∷ 5 ∷ 11 ∷ 67 ∷ [] } ∷
    record { n = 30703; g = 3; bits = 15; factors = 2 ∷ 3 ∷ 7 ∷ 17 ∷ 43 ∷ [] } ∷
    record { n = 32573; g = 2; bits = 15; factors = 2 ∷ 2 ∷ 17 ∷ 479 ∷ [] } ∷
    record { n = 34123; g = 2; bits = 16; factors = 2 ∷ 3 ∷ 11 ∷ 11 ∷ 47 ∷ [] } ∷
    record { n = 37853; g = 2; bits = 16; factors = 2 ∷ 2 ∷ 9463 ∷ [] } ∷
    record { n = 41081; g = 3; bits = 16; factors = 2 ∷ 2 ∷ 2 ∷ 5 ∷ 13 ∷ 79 ∷ [] } ∷
    record { n = 57467; g = 2; bits = 16; factors = 2 ∷ 59 ∷ 487 ∷ [] } ∷
    record { n = 65147; g = 2; bits = 16; factors = 2 ∷ 32573 ∷ [] } ∷
    record { n = 75707; g = 2; bits = 17; factors = 2 ∷ 37853 ∷ [] } ∷
    record { n = 82163; g = 2; bits = 17; factors = 2 ∷ 41081 ∷ [] } ∷
    record { n = 132049; g = 26; bits = 18; factors = 2 ∷ 2 ∷ 2 ∷ 2 ∷ 3 ∷ 3 ∷ 7 ∷ 131 ∷ [] } ∷
    record { n = 132667; g = 5; bits = 18; factors = 2 ∷ 3 ∷ 22111 ∷ [] } ∷
    record { n = 137849; g = 3; bits = 18; factors = 2 ∷ 2 ∷ 2 ∷ 17231 ∷ [] } ∷
    record { n = 409477; g = 2; bits = 19; factors = 2 ∷ 2 ∷ 3 ∷ 34123 ∷ [] } ∷
    record { n = 430751; g = 17; bits = 19; factors = 2 ∷ 5 ∷ 5 ∷ 5 ∷ 1723 ∷ [] } ∷
    record { n = 531581; g = 2; bits = 20; factors = 2 ∷ 2 ∷ 5 ∷ 7 ∷ 3797 ∷ [] } ∷
    record { n = 569003; g = 2; bits = 20; factors = 2 ∷ 7 ∷ 97 ∷ 419 ∷ [] } ∷
    record { n = 1224481; g = 13; bits = 21; factors = 2 ∷ 2 ∷ 2 ∷ 2 ∷ 2 ∷ 3 ∷ 5 ∷ 2551 ∷ [] } ∷
    record { n = 1923133; g = 2; bits = 21; factors = 2 ∷ 2 ∷ 3 ∷ 43 ∷ 3727 ∷ [] } ∷
    record { n = 8574133; g = 2; bits = 24; factors = 2 ∷ 2 ∷ 3 ∷ 7 ∷ 103 ∷ 991 ∷ [] } ∷
    record { n = 14741173; g = 2; bits = 24; factors = 2 ∷ 2 ∷ 3 ∷ 3 ∷ 409477 ∷ [] } ∷
    record { n = 58964693; g = 2; bits = 26; factors = 2 ∷ 2 ∷ 14741173 ∷ [] } ∷
    record { n = 292386187; g = 2; bits = 29; factors = 2 ∷ 3 ∷ 3 ∷ 3 ∷ 3 ∷ 307 ∷ 5879 ∷ [] } ∷
    record { n = 2773320623; g = 5; bits = 32; factors = 2 ∷ 2437 ∷ 569003 ∷ [] } ∷
    record { n = 72106336199; g = 7; bits = 37; factors = 2 ∷ 13 ∷ 2773320623 ∷ [] } ∷
    record { n = 213441916511; g = 13; bits = 38; factors = 2 ∷ 5 ∷ 73 ∷ 292386187 ∷ [] } ∷
    record { n = 1257559732178653; g = 2; bits = 51; factors = 2 ∷ 2 ∷ 3 ∷ 7 ∷ 23 ∷ 531581 ∷ 1224481 ∷ [] } ∷
    record { n = 1919519569386763; g = 2; bits = 51; factors = 2 ∷ 3 ∷ 7 ∷ 19 ∷ 47 ∷ 47 ∷ 127 ∷ 8574133 ∷ [] } ∷
    record { n = 31757755568855353; g = 10; bits = 55; factors = 2 ∷ 2 ∷ 2 ∷ 3 ∷ 31 ∷ 107 ∷ 223 ∷ 4153 ∷ 430751 ∷ [] } ∷
    record { n = 4434155615661930479; g = 17; bits = 62; factors = 2 ∷ 41 ∷ 43 ∷ 1257559732178653 ∷ [] } ∷
    record { n = 3044861653679985063343; g = 5; bits = 72; factors = 2 ∷ 3 ∷ 11 ∷ 30703 ∷ 82163 ∷ 132667 ∷ 137849 ∷ [] } ∷
    record { n = 172054593956031949258510691; g = 2; bits = 88; factors = 2 ∷ 5 ∷ 1361 ∷ 2851 ∷ 4434155615661930479 ∷ [] } ∷
    record { n = 198211423230930754013084525763697; g = 5; bits = 108; factors = 2 ∷ 2 ∷ 2 ∷ 2 ∷ 3 ∷ 23 ∷ 58964693 ∷ 3044861653679985063343 ∷ [] } ∷
    record {
      n = 75445702479781427272750846543864801;
      g = 7;
      bits = 116;
      factors = 2 ∷ 2 ∷ 2 ∷ 2 ∷ 2 ∷ 3 ∷ 3 ∷ 5 ∷ 5 ∷ 75707 ∷ 72106336199 ∷
          1919519569386763 ∷ [];
    } ∷
    record { n = 19757330305831588566944191468367130476339; g = 2; bits = 134; factors = 2 ∷ 269 ∷ 213441916511 ∷ 172054593956031949258510691 ∷ [] } ∷
    record { n = 276602624281642239937218680557139826668747; g = 2; bits = 138; factors = 2 ∷ 7 ∷ 19757330305831588566944191468367130476339 ∷ [] } ∷
    record {
      n = 74058212732561358302231226437062788676166966415465897661863160754340907;
      g = 2;
      bits = 236;
      factors = 2 ∷ 3 ∷ 353 ∷ 57467 ∷ 132049 ∷
          1923133 ∷ 31757755568855353 ∷ 75445702479781427272750846543864801 ∷ [];
    } ∷
    record {
      n = 7237005577332262213973186563042994240857116359379907606001950938285454250989;
      g = 2;
      bits = 253;
      factors = 2 ∷ 2 ∷ 3 ∷ 11 ∷
          198211423230930754013084525763697 ∷ 276602624281642239937218680557139826668747 ∷ [];
    } ∷
    record {
      n = 57896044618658097711785492504343953926634992332820282019728792003956564819949;
      g = 2;
      bits = 255;
      factors = 2 ∷ 2 ∷ 3 ∷ 65147 ∷
          74058212732561358302231226437062788676166966415465897661863160754340907 ∷ [];
    } ∷
    []

rows_right : are_rows (2 ∷ []) rows ≡ true
rows_right = refl

all : Each IsPrimeByInverses (after (2 ∷ []) rows)
all = rows_are (2 ∷ []) rows (two, tt) rows_right

pub p_is_prime : IsPrimeByInverses p
p_is_prime = all.0

pub order_is_prime : IsPrimeByInverses order
order_is_prime = all.1.0
