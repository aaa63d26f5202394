-- Equations modulo p between sums, differences and products, by reflection: both sides are made polynomials, by
-- computing.
use Rattle.std.proofs.Common.{◌≡◌, ℕ, zero, suc, ◌+◌, ◌-◌, ◌*◌, ◌/◌, ◌%◌, ◌^◌, Bool, true, false, List, [], ◌∷◌, get_or, refl, sym, ap, ap₂, ◌∙◌, arith}
use Rattle.std.specs.Prelude.{nat_eq, nat_lt, ◌&&◌}
use Rattle.std.proofs.lemmas.Bool.{eqb-true}
use Rattle.std.proofs.Math.Nat.{mod-mod, add-mod, pow-zero, pow-suc}
use Rattle.std.proofs.lemmas.Nat.{mul-mod, pow-add}
use Rattle.field25519.specs.Modulo.{p, plus, minus, times}
use Rattle.field25519.proofs.Residues.{same_residue}

pub data Expr : Type 0 where
  Var : ℕ → Expr
  Num : ℕ → Expr
  Add : Expr → Expr → Expr
  Sub : Expr → Expr → Expr
  Mul : Expr → Expr → Expr

abbrev pub meaning : List ℕ → Expr → ℕ
meaning e (Var i) = get_or e i 0
meaning e (Num n) = n
meaning e (Add a b) = plus (meaning e a) (meaning e b)
meaning e (Sub a b) = minus (meaning e a) (meaning e b)
meaning e (Mul a b) = times (meaning e a) (meaning e b)

-- a coefficient, and the exponent of each variable
pub record Term : Type 0 where
  pub c : ℕ
  pub m : List ℕ

abbrev pub pick : {A : Type 0} → Bool → Bool → (Unit {0} → A) → (Unit {0} → A) → (Unit {0} → A) → A
pick true b f g h = f tt
pick false true f g h = g tt
pick false false f g h = h tt

abbrev pub same : List ℕ → List ℕ → Bool
same [] [] = true
same [] (l ∷ ls) = false
same (k ∷ ks) [] = false
same (k ∷ ks) (l ∷ ls) = nat_eq k l && same ks ls

abbrev pub before : List ℕ → List ℕ → Bool
before [] [] = false
before [] (l ∷ ls) = true
before (k ∷ ks) [] = false
before (k ∷ ks) (l ∷ ls) = pick (nat_eq k l) (nat_lt k l) (λ _. before ks ls) (λ _. true) (λ _. false)

abbrev pub choose : {A : Type 0} → Bool → A → (Unit {0} → A) → A
choose true x f = x
choose false x f = f tt

-- a term, but for zero
abbrev pub keep : Term → List Term → List Term
keep t ts = choose (nat_eq t.c 0) ts (λ _. t ∷ ts)

abbrev pub insert : Term → (List Term → List Term) → List Term → List Term
insert x f [] = x ∷ f []
insert x f (y ∷ ys) =
    pick (same x.m y.m) (before x.m y.m)
    (λ _. keep (record { c = (x.c + y.c) % p; m = y.m }) (f ys))
    (λ _. x ∷ f (y ∷ ys))
    (λ _. y ∷ insert x f ys)

abbrev pub merge : List Term → List Term → List Term
merge [] ys = ys
merge (x ∷ xs) ys = insert x (merge xs) ys

abbrev pub exponents : List ℕ → List ℕ → List ℕ
exponents [] ls = ls
exponents (k ∷ ks) [] = k ∷ ks
exponents (k ∷ ks) (l ∷ ls) = (k + l) ∷ exponents ks ls

abbrev pub by_term : Term → List Term → List Term
by_term t [] = []
by_term t (u ∷ us) = record { c = t.c * u.c % p; m = exponents t.m u.m } ∷ by_term t us

abbrev pub product : List Term → List Term → List Term
product [] us = []
product (t ∷ ts) us = merge (by_term t us) (product ts us)

abbrev pub unit : ℕ → List ℕ
unit zero = 1 ∷ []
unit (suc i) = 0 ∷ unit i

abbrev pub polynomial : Expr → List Term
polynomial (Var i) = record { c = 1; m = unit i } ∷ []
polynomial (Num n) = record { c = n % p; m = [] } ∷ []
polynomial (Add a b) = merge (polynomial a) (polynomial b)
polynomial (Sub a b) = merge (polynomial a) (by_term (record { c = p - 1; m = [] }) (polynomial b))
polynomial (Mul a b) = product (polynomial a) (polynomial b)

abbrev pub are_zero : List Term → Bool
are_zero [] = true
are_zero (t ∷ ts) = nat_eq t.c 0 && are_zero ts

-- ---- what they mean
abbrev power_product : List ℕ → List ℕ → ℕ
power_product e [] = 1
power_product [] (k ∷ ks) = 0 ^ k * power_product [] ks
power_product (x ∷ e) (k ∷ ks) = x ^ k * power_product e ks

abbrev value : List ℕ → List Term → ℕ
value e [] = 0
value e (t ∷ ts) = t.c * power_product e t.m + value e ts

add_same : (a b c d : ℕ) → a % p ≡ b % p → c % p ≡ d % p → (a + c) % p ≡ (b + d) % p
add_same a b c d h k = add-mod a c p ∙ ap₂ (λ x y. (x + y) % p) h k ∙ sym (add-mod b d p)

mul_same : (a b c d : ℕ) → a % p ≡ b % p → c % p ≡ d % p → (a * c) % p ≡ (b * d) % p
mul_same a b c d h k = mul-mod a c p ∙ ap₂ (λ x y. x * y % p) h k ∙ sym (mul-mod b d p)

pub and_left : (a b : Bool) → a && b ≡ true → a ≡ true
and_left true b h = refl
and_left false b h = h

pub and_right : (a b : Bool) → a && b ≡ true → b ≡ true
and_right true b h = h
and_right false b h = cc

same_is : (e ks ls : List ℕ) → same ks ls ≡ true → power_product e ks ≡ power_product e ls
same_is e [] [] h = refl
same_is e [] (l ∷ ls) h = cc
same_is e (k ∷ ks) [] h = cc
same_is [] (k ∷ ks) (l ∷ ls) h = ap₂ (λ i r. 0 ^ i * r) (eqb-true k l (and_left _ _ h)) (same_is [] ks ls (and_right _ _ h))
same_is (x ∷ e) (k ∷ ks) (l ∷ ls) h = ap₂ (λ i r. x ^ i * r) (eqb-true k l (and_left _ _ h)) (same_is e ks ls (and_right _ _ h))

picked : {A : Type 0} (P : A → Type 0) (s b : Bool) (f g h : Unit {0} → A) → (s ≡ true → P (f tt)) → P (g tt) → P (h tt) → P (pick s b f g h)
picked P true b f g h x y z = x refl
picked P false true f g h x y z = y
picked P false false f g h x y z = z

chosen : {A : Type 0} (P : A → Type 0) (b : Bool) (x : A) (f : Unit {0} → A) → (b ≡ true → P x) → P (f tt) → P (choose b x f)
chosen P true x f h k = h refl
chosen P false x f h k = k

keep_is : (e : List ℕ) (t : Term) (ts : List Term) → value e (keep t ts) ≡ value e (t ∷ ts)
keep_is e t ts =
    chosen (λ r. value e r ≡ value e (t ∷ ts)) (nat_eq t.c 0) ts (λ _. t ∷ ts)
    (λ h.
    let none : value e ts ≡ 0 * power_product e t.m + value e ts = omega arith in
    none ∙ ap (λ c. c * power_product e t.m + value e ts) (sym (eqb-true t.c 0 h)))
    refl

module _ (e : List ℕ) where
  insert_is : (x : Term) (xs : List Term) (f : List Term → List Term) → ((ys : List Term) → value e (f ys) % p ≡ (value e xs + value e ys) % p) →
      (ys : List Term) → value e (insert x f ys) % p ≡ (value e (x ∷ xs) + value e ys) % p
  insert_is x xs f h [] =
      let v = x.c * power_product e x.m in
      let regroup : v + (value e xs + 0) ≡ v + value e xs + 0 = omega arith in
      add_same v v (value e (f [])) (value e xs + 0) refl (h []) ∙ ap (λ n. n % p) regroup
  insert_is x xs f h (y ∷ ys) =
      let v = x.c * power_product e x.m in
      let w = y.c * power_product e y.m in
      let X = value e xs in
      let Y = value e ys in
      picked (λ r. value e r % p ≡ (value e (x ∷ xs) + value e (y ∷ ys)) % p) (same x.m y.m) (before x.m y.m) _ _ _
      (λ eq.
      let both : x.c * power_product e y.m ≡ v = ap (λ n. x.c * n) (sym (same_is e x.m y.m eq)) in
      let spread : (x.c + y.c) * power_product e y.m ≡ x.c * power_product e y.m + w = omega arith in
      let regroup : (v + w) + (X + Y) ≡ (v + X) + (w + Y) = omega arith in
      ap (λ n. n % p) (keep_is e (record { c = (x.c + y.c) % p; m = y.m }) (f ys))
      ∙ add_same ((x.c + y.c) % p * power_product e y.m) (v + w) (value e (f ys)) (X + Y)
      (mul_same ((x.c + y.c) % p) (x.c + y.c) (power_product e y.m) (power_product e y.m) (mod-mod (x.c + y.c) p) refl ∙ ap (λ n. n % p) (spread ∙ ap
      (λ n. n + w) both))
      (h ys)
      ∙ ap (λ n. n % p) regroup)
      (
      let regroup : v + (X + (w + Y)) ≡ (v + X) + (w + Y) = omega arith in
      add_same v v (value e (f (y ∷ ys))) (X + (w + Y)) refl (h (y ∷ ys)) ∙ ap (λ n. n % p) regroup)
      (
      let regroup : w + ((v + X) + Y) ≡ (v + X) + (w + Y) = omega arith in
      add_same w w (value e (insert x f ys)) ((v + X) + Y) refl (insert_is x xs f h ys) ∙ ap (λ n. n % p) regroup)

  merge_is : (xs ys : List Term) → value e (merge xs ys) % p ≡ (value e xs + value e ys) % p
  merge_is [] ys = ap (λ n. n % p) (let less : value e ys ≡ 0 + value e ys = omega arith in less)
  merge_is (x ∷ xs) ys = insert_is x xs (merge xs) (merge_is xs) ys

exponents_is : (e ks ls : List ℕ) → power_product e (exponents ks ls) ≡ power_product e ks * power_product e ls
exponents_is e [] ls = let one : power_product e ls ≡ 1 * power_product e ls = omega arith in one
exponents_is e (k ∷ ks) [] = let one : power_product e (k ∷ ks) ≡ power_product e (k ∷ ks) * 1 = omega arith in one
exponents_is [] (k ∷ ks) (l ∷ ls) =
    ap₂ (λ a b. a * b) (pow-add 0 k l) (exponents_is [] ks ls) ∙ swap (0 ^ k) (0 ^ l) (power_product [] ks) (power_product [] ls)
  where
    swap : (a b c d : ℕ) → a * b * (c * d) ≡ a * c * (b * d)
    swap a b c d = omega arith
exponents_is (x ∷ e) (k ∷ ks) (l ∷ ls) =
    ap₂ (λ a b. a * b) (pow-add x k l) (exponents_is e ks ls) ∙ swap (x ^ k) (x ^ l) (power_product e ks) (power_product e ls)
  where
    swap : (a b c d : ℕ) → a * b * (c * d) ≡ a * c * (b * d)
    swap a b c d = omega arith

module _ (e : List ℕ) where
  by_term_is : (t : Term) (us : List Term) → value e (by_term t us) % p ≡ (t.c * power_product e t.m * value e us) % p
  by_term_is t [] = ap (λ n. n % p) (let none : 0 ≡ t.c * power_product e t.m * 0 = omega arith in none)
  by_term_is t (u ∷ us) =
      let v = power_product e t.m in
      let w = power_product e u.m in
      let U = value e us in
      let first : (t.c * u.c % p * power_product e (exponents t.m u.m)) % p ≡ (t.c * u.c * (v * w)) % p =
      mul_same (t.c * u.c % p) (t.c * u.c) (power_product e (exponents t.m u.m)) (v * w) (mod-mod (t.c * u.c) p) (ap (λ n. n % p) (exponents_is e t.m u.m)) in
      let regroup : t.c * u.c * (v * w) + t.c * v * U ≡ t.c * v * (u.c * w + U) = omega arith in
      add_same _ (t.c * u.c * (v * w)) _ (t.c * v * U) first (by_term_is t us) ∙ ap (λ n. n % p) regroup

  product_is : (ts us : List Term) → value e (product ts us) % p ≡ (value e ts * value e us) % p
  product_is [] us = ap (λ n. n % p) (let none : 0 ≡ 0 * value e us = omega arith in none)
  product_is (t ∷ ts) us =
      let v = t.c * power_product e t.m in
      let regroup : v * value e us + value e ts * value e us ≡ (v + value e ts) * value e us = omega arith in
      merge_is e (by_term t us) (product ts us)
      ∙ add_same _ (v * value e us) _ (value e ts * value e us) (by_term_is t us) (product_is ts us) ∙ ap (λ n. n % p) regroup

unit_is : (e : List ℕ) (i : ℕ) → power_product e (unit i) ≡ get_or e i 0
unit_is [] zero = refl
unit_is [] (suc i) = ap (λ n. n * power_product [] (unit i)) (pow-zero 0) ∙ (let one : 1 * power_product [] (unit i) ≡ power_product [] (unit i) =
    omega arith in one) ∙ unit_is [] i
unit_is (x ∷ e) zero = ap (λ n. n * 1) (pow-suc x 0 ∙ ap (λ n. n * x) (pow-zero x)) ∙ (let one : 1 * x * 1 ≡ x = omega arith in one)
unit_is (x ∷ e) (suc i) = ap (λ n. n * power_product e (unit i)) (pow-zero x) ∙ (let one : 1 * power_product e (unit i) ≡ power_product e (unit i) =
    omega arith in one) ∙ unit_is e i

minus_is : (x y : ℕ) → minus x y ≡ (x + (p - 1) * y) % p
unfolding minus
minus_is x y = same_residue (x + (p - y % p)) (x + (p - 1) * y) y (1 + y / p) (omega arith)

minus_zero : (x y : ℕ) → minus x y % p ≡ 0 → x % p ≡ y % p
unfolding minus
minus_zero x y h = omega (arith, h)

meaning_is : (e : List ℕ) (a : Expr) → meaning e a % p ≡ value e (polynomial a) % p
unfolding plus times
meaning_is e (Var i) = ap (λ n. n % p) (sym (unit_is e i) ∙ (let one : power_product e (unit i) ≡ 1 * power_product e (unit i) + 0 = omega arith in one))
meaning_is e (Num n) = sym (mod-mod n p) ∙ ap (λ k. k % p) (let one : n % p ≡ n % p * 1 + 0 = omega arith in one)
meaning_is e (Add a b) =
    mod-mod (meaning e a + meaning e b) p
    ∙ add_same (meaning e a) (value e (polynomial a)) (meaning e b) (value e (polynomial b)) (meaning_is e a) (meaning_is e b)
    ∙ sym (merge_is e (polynomial a) (polynomial b))
meaning_is e (Sub a b) =
    let x = meaning e a in
    let y = meaning e b in
    let Y = value e (polynomial b) in
    let less : Term = record { c = p - 1; m = [] } in
    let one : (p - 1) * Y ≡ (p - 1) * 1 * Y = omega arith in
    ap (λ n. n % p) (minus_is x y) ∙ mod-mod (x + (p - 1) * y) p
    ∙ add_same x (value e (polynomial a)) ((p - 1) * y) (value e (by_term less (polynomial b))) (meaning_is e a)
    (mul_same (p - 1) (p - 1) y Y refl (meaning_is e b) ∙ ap (λ n. n % p) one ∙ sym (by_term_is e less (polynomial b)))
    ∙ sym (merge_is e (polynomial a) (by_term less (polynomial b)))
meaning_is e (Mul a b) =
    mod-mod (meaning e a * meaning e b) p
    ∙ mul_same (meaning e a) (value e (polynomial a)) (meaning e b) (value e (polynomial b)) (meaning_is e a) (meaning_is e b)
    ∙ sym (product_is e (polynomial a) (polynomial b))

zero_is : (e : List ℕ) (ts : List Term) → are_zero ts ≡ true → value e ts ≡ 0
zero_is e [] h = refl
zero_is e (t ∷ ts) h =
    let none : 0 * power_product e t.m + 0 ≡ 0 = omega arith in
    ap₂ (λ c r. c * power_product e t.m + r) (eqb-true t.c 0 (and_left _ _ h)) (zero_is e ts (and_right _ _ h)) ∙ none

pub residues : (e : List ℕ) (a b : Expr) → are_zero (polynomial (Sub a b)) ≡ true → meaning e a % p ≡ meaning e b % p
residues e a b h =
    minus_zero (meaning e a) (meaning e b)
    (meaning_is e (Sub a b) ∙ ap (λ n. n % p) (zero_is e (polynomial (Sub a b)) h))

-- whether it is a residue, and not a variable or a numeral
abbrev pub is_result : Expr → Bool
is_result (Var i) = false
is_result (Num n) = false
is_result (Add a b) = true
is_result (Sub a b) = true
is_result (Mul a b) = true

result_is : (e : List ℕ) (a : Expr) → is_result a ≡ true → meaning e a % p ≡ meaning e a
unfolding plus minus times
result_is e (Var i) h = cc
result_is e (Num n) h = cc
result_is e (Add a b) h = mod-mod (meaning e a + meaning e b) p
result_is e (Sub a b) h = mod-mod (meaning e a + (p - meaning e b % p)) p
result_is e (Mul a b) h = mod-mod (meaning e a * meaning e b) p

-- two results are equal if their polynomials are
pub ring : (e : List ℕ) (a b : Expr) → is_result a && is_result b && are_zero (polynomial (Sub a b)) ≡ true → meaning e a ≡ meaning e b
ring e a b h =
    let results = and_left (is_result a && is_result b) _ h in
    sym (result_is e a (and_left _ _ results)) ∙ residues e a b (and_right _ _ h) ∙ result_is e b (and_right _ _ results)
