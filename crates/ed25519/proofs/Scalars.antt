-- Sums and products modulo the order.
use Rattle.std.proofs.Common.{◌≡◌, ◌≢◌, Bool, true, false, eqb, ℕ, suc, ◌+◌, ◌-◌, ◌*◌, ◌/◌, ◌%◌, ◌^◌, ◌<◌, ◌≤◌, List, length, drop, sym, ap, ◌∙◌, arith}
use Rattle.std.proofs.Common.{add-one}
use Rattle.std.proofs.Math.Nat.{add-mod, add-mod-mod, pow-suc}
use Rattle.std.proofs.lemmas.Nat.{mul-mod_first}
use Rattle.std.proofs.lemmas.List.{drop_all}
use Rattle.std.specs.Prelude.{if◌then◌else◌}
use Rattle.std.proofs.lemmas.Bool.{eqb-true, eqb-false}
use Rattle.field25519.specs.Bytes.{number, is_odd}
use Rattle.edwards_model.specs.Curve.{order}

pub twice_step : (k s x r : ℕ) → x ≡ 2 ^ k * s % order → r ≡ (x + x) % order → r ≡ 2 ^ (k + 1) * s % order
twice_step k s x r h e =
    let more : 2 ^ (k + 1) ≡ 2 ^ k * 2 = ap (λ j. 2 ^ j) (add-one k) ∙ pow-suc 2 k in
    let y = 2 ^ k * s in
    let twice : y + y ≡ 2 ^ k * 2 * s = omega arith in
    e ∙ ap (λ z. (z + z) % order) h ∙ sym (add-mod y y order) ∙ ap (λ z. z % order) (twice ∙ ap (λ z. z * s) (sym more))

pub byte_step : (b s x k : ℕ) → k ≡ 8 → x ≡ 2 ^ k * s % order → (b + x) % order ≡ (b + 256 * s) % order
byte_step b s x k e h =
    ap (λ z. (b + z) % order) (h ∙ ap (λ j. 2 ^ j * s % order) e) ∙ add-mod-mod b (256 * s) order

pub number_none : (k : ℕ) (xs : List ℕ) → length xs ≡ k → 0 ≡ number (drop k xs) % order
number_none k xs h = ap (λ ys. number ys % order) (sym (drop_all k xs (omega (arith, h))))

-- a sum with a product, of which a factor is a residue
sum_residue : (s a h : ℕ) → (s + a % order * h) % order ≡ (s + a * h) % order
sum_residue s a h =
    add-mod s (a % order * h) order ∙ ap (λ z. (s % order + z) % order) (mul-mod_first a h order) ∙ sym (add-mod s (a * h) order)

pub even_step : (s m n r : ℕ) → n % 2 ≡ 0 → r ≡ (m + m) % order → (s + r * (n / 2)) % order ≡ (s + m * n) % order
even_step s m n r e h =
    let h2 = n / 2 in
    let half : n ≡ 2 * h2 = omega (arith, e) in
    let whole : s + (m + m) * h2 ≡ s + m * (2 * h2) = omega arith in
    ap (λ z. (s + z * h2) % order) h ∙ sum_residue s (m + m) h2 ∙ ap (λ z. z % order) (whole ∙ ap (λ z. s + m * z) (sym half))

pub odd_step : (s m n r t : ℕ) → n % 2 ≡ 1 → r ≡ (m + m) % order → t ≡ (s + m) % order → (t + r * (n / 2)) % order ≡ (s + m * n) % order
odd_step s m n r t e h g =
    let h2 = n / 2 in
    let half : n ≡ 2 * h2 + 1 = omega (arith, e) in
    let whole : s + m + (m + m) * h2 ≡ s + m * (2 * h2 + 1) = omega arith in
    ap (λ z. (t + z * h2) % order) h
    ∙ sum_residue t (m + m) h2
    ∙ ap (λ z. (z + (m + m) * h2) % order) g
    ∙ residue_sum (s + m) ((m + m) * h2)
    ∙ ap (λ z. z % order) (whole ∙ ap (λ z. s + m * z) (sym half))
  where
    residue_sum : (a b : ℕ) → (a % order + b) % order ≡ (a + b) % order
    residue_sum a b =
        let turned : a % order + b ≡ b + a % order = omega arith in
        let back : b + a ≡ a + b = omega arith in
        ap (λ z. z % order) turned ∙ add-mod-mod b a order ∙ ap (λ z. z % order) back

-- a step of the product, whose choice is by a bit
pub chosen_step : (o : Bool) (s m n r t u : ℕ) → is_odd n ≡ o → r ≡ (m + m) % order → t ≡ (s + m) % order → u ≡ (if o then t else s) →
    (u + r * (n / 2)) % order ≡ (s + m * n) % order
chosen_step true s m n r t u o h g e = ap (λ z. (z + r * (n / 2)) % order) e ∙ odd_step s m n r t (eqb-true (n % 2) 1 o) h g
chosen_step false s m n r t u o h g e =
    ap (λ z. (z + r * (n / 2)) % order) e ∙ even_step s m n r (let other : n % 2 ≢ 1 = eqb-false (n % 2) 1 o in omega (arith, other)) h

pub chosen_below : (o : Bool) (t s u : ℕ) → t < order → s < order → u ≡ (if o then t else s) → u < order
chosen_below true t s u h g e = omega (arith, h, e)
chosen_below false t s u h g e = omega (arith, g, e)

pub first_step : (s n m : ℕ) → m ≡ (s + 0) % order → (0 + m * n) % order ≡ s * n % order
first_step s n m h =
    let none : s + 0 ≡ s = omega arith in
    let less : 0 + m * n ≡ m * n = omega arith in
    ap (λ z. z % order) less ∙ ap (λ z. z * n % order) (h ∙ ap (λ z. z % order) none) ∙ mul-mod_first s n order

pub halved_small : (k n : ℕ) → k < 256 → n < 2 ^ (256 - k) → n / 2 < 2 ^ (256 - (k + 1))
halved_small k n h l =
    let next : 256 - k ≡ suc (256 - (k + 1)) = omega arith in
    let double : 2 ^ (256 - k) ≡ 2 ^ (256 - (k + 1)) * 2 = ap (λ j. 2 ^ j) next ∙ pow-suc 2 (256 - (k + 1)) in
    omega (arith, l, double)

-- the sum of two numbers below the order, or what it is past the order
pub reduced : (o : Bool) (a b low carry over more k n : ℕ) → eqb more 1 ≡ o → a < order → b < order → low + 2 ^ 256 * carry ≡ a + b →
    over + 2 ^ 256 * more ≡ low + k → k + order ≡ 2 ^ 256 → more ≤ 1 → over < 2 ^ 256 → n ≡ (if o then over else low) → (n ≡ (a + b) % order) × (n < order)
reduced true a b low carry over more k n o ha hb first second comp few fits e =
    let one : more ≡ 1 = eqb-true more 1 o in (omega (arith, one), omega (arith, one))
reduced false a b low carry over more k n o ha hb first second comp few fits e =
    let other : more ≢ 1 = eqb-false more 1 o in (omega (arith, other), omega (arith, other))
