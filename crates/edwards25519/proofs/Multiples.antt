-- Multiples of a point, by doubling and by digits.
use Rattle.std.proofs.Common.{◌≡◌, ℕ, zero, suc, ◌+◌, ◌-◌, ◌*◌, ◌/◌, ◌%◌, ◌<◌, List, [], ◌∷◌, length, get_or, drop, refl, sym, ap, ap₂, ◌∙◌, arith}
use Rattle.std.specs.Prelude.{slice_index}
use Rattle.std.proofs.lemmas.List.{at_drop_more, drop_all}
use Rattle.field25519.specs.Bytes.{number}
use Rattle.edwards_model.specs.Curve.{Affine, IsPoint, sum, neutral, multiple}
use Rattle.edwards_model.proofs.Group.{commutative, with_neutral, multiple_sum, multiple_multiple}

module _ (a : Affine) (h : IsPoint a) where
  pub once : multiple 1 a ≡ a
  unfolding multiple
  once = commutative neutral a ∙ with_neutral a h

  twice : (m n : ℕ) (b : Affine) → b ≡ multiple m a → n ≡ m + m → sum b b ≡ multiple n a
  twice m n b e f = ap₂ sum e e ∙ sym (multiple_sum a h m m) ∙ ap (λ k. multiple k a) (sym f)

  -- doubled three times, and four times
  pub eight_times : (b c r : Affine) → b ≡ sum a a → c ≡ sum b b → r ≡ sum c c → r ≡ multiple 8 a
  eight_times b c r e f g =
      let two : b ≡ multiple 2 a = e ∙ twice 1 2 a (sym once) refl in
      let four : c ≡ multiple 4 a = f ∙ twice 2 4 b two refl in
      g ∙ twice 4 8 c four refl

  pub sixteen_times : (b c e r : Affine) → b ≡ sum a a → c ≡ sum b b → e ≡ sum c c → r ≡ sum e e → r ≡ multiple 16 a
  sixteen_times b c e r f g k i = i ∙ twice 8 16 e (eight_times b c e f g k) refl

  -- a digit more
  pub digit_more : (n k : ℕ) (b c : Affine) → b ≡ multiple n a → c ≡ multiple k a → sum (multiple 16 b) c ≡ multiple (16 * n + k) a
  digit_more n k b c e f = ap₂ sum (ap (multiple 16) e ∙ multiple_multiple a h 16 n) f ∙ sym (multiple_sum a h (16 * n) k)

-- multiples one after another, from so many on
abbrev pub AreMultiples : Affine → ℕ → List Affine → Type 0
AreMultiples a n [] = Unit {0}
AreMultiples a n (b ∷ bs) = (b ≡ multiple n a) × AreMultiples a (suc n) bs

pub one_more : (a : Affine) (n : ℕ) (b r : Affine) → b ≡ multiple n a → r ≡ sum b a → r ≡ multiple (suc n) a
unfolding multiple
one_more a n b r e f = f ∙ ap (λ b. sum b a) e

pub multiples_at : (a : Affine) (n : ℕ) (bs : List Affine) → AreMultiples a n bs → (k : ℕ) → k < length bs → get_or bs k neutral ≡ multiple (n + k) a
multiples_at a n [] h k l = absurd (omega (arith, l))
multiples_at a n (b ∷ bs) h zero l = h.0 ∙ ap (λ k. multiple k a) (let o : n ≡ n + 0 = omega arith in o)
multiples_at a n (b ∷ bs) h (suc k) l = multiples_at a (suc n) bs h.1 k (omega (arith, l)) ∙ ap (λ k. multiple k a) (let o : suc n + k ≡ n + suc k =
    omega arith in o)

-- ---- the digits of bytes, from the last byte on
pub first_bytes : (bytes : List ℕ) (a : Affine) → length bytes ≡ 32 → neutral ≡ multiple (number (drop 32 bytes)) a
unfolding multiple
first_bytes bytes a h = ap (λ xs. multiple (number xs) a) (sym (drop_all 32 bytes (omega (arith, h))))

pub next_byte : (bytes : List ℕ) (place byte high low : ℕ) → length bytes ≡ 32 → place < 32 → byte ≡ slice_index bytes (31 - place) → high ≡ byte /
    16 → low ≡ byte % 16 →
    16 * (16 * number (drop (32 - place) bytes) + high) + low ≡ number (drop (32 - (place + 1)) bytes)
next_byte bytes place byte high low h l e f g =
    let n = number (drop (32 - place) bytes) in
    let digits : 16 * (16 * n + high) + low ≡ byte + 256 * n = omega (arith, f, g) in
    let here : 31 - place ≡ 32 - (place + 1) = omega (arith, l) in
    let next : 32 - place ≡ 31 - place + 1 = omega (arith, l) in
    let more = at_drop_more number bytes (31 - place) 0 (omega (arith, h, l)) in
    digits ∙ ap₂ (λ b k. b + 256 * number (drop k bytes)) e next ∙ sym more ∙ ap (λ k. number (drop k bytes)) here
