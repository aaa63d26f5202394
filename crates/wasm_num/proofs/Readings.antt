-- How large signed readings and their quotients are. `mag z` is n both for n and for -(n + 1).
use Rattle.std.proofs.Common.{◌≡◌, ℕ, zero, suc, ◌+◌, ◌-◌, ◌/◌, ◌<◌, ◌≤◌, Bool, true, false, nat_lt, ℤ, pos, negsuc, neg_ℤ, ◌-ℤ◌, int_le, int_div}
use Rattle.std.proofs.Common.{if◌then◌else◌, refl, sym, ap, subst, ◌∙◌, arith, leb-true, leb-false, lt-ltb, le-ltb, ltb-true, ltb-false, true≢false}
use Rattle.std.proofs.Math.Nat.{div-le_self, div-lt_self, div-one}
use Rattle.std.proofs.lemmas.Bool.{lt-leb}
use lib.Signed.{mag}
use Rattle.wasm_ast.specs.Types.{words}
use Rattle.wasm_ast.specs.declared.types.ValueType.{ValueType}
use Rattle.wasm_ast.specs.declared.types.ValueType.TheVariants.{I32, I64}
use Rattle.wasm_num.specs.Operators.{signed, unsigned}
use Rattle.wasm_num.specs.Laws.Fits.{minus_words}

pub halves : (t : ValueType) → words t ≡ words t / 2 + words t / 2
halves I32 = refl
halves I64 = refl

pub half_pos : (t : ValueType) → 0 < words t / 2
half_pos I32 = omega arith
half_pos I64 = omega arith

reading_lt : (t : ValueType) (a : ℕ) (low : Bool) → nat_lt a (words t / 2) ≡ low → a < words t →
    mag (if low then pos a else pos a -ℤ pos (words t)) < words t / 2
reading_lt t a true e h = ltb-true a (words t / 2) e
reading_lt t a false e h =
    subst (λ (z : ℤ). mag z < words t / 2) (sym (minus_words (words t) a h)) (omega (arith, h, halves t, ltb-false a (words t / 2) e))

pub mag-signed_lt : (t : ValueType) (a : ℕ) → a < words t → mag (signed t a) < words t / 2
mag-signed_lt t a h = reading_lt t a (nat_lt a (words t / 2)) refl h

-- a number that is a signed reading is that of its word
pub signed-unsigned : (t : ValueType) (z : ℤ) → mag z < words t / 2 → signed t (unsigned t z) ≡ z
signed-unsigned t (pos n) h = ap (λ (low : Bool). if low then pos n else pos n -ℤ pos (words t)) (lt-ltb n (words t / 2) h)
signed-unsigned t (negsuc n) h =
    let a = words t - suc n in
    ap (λ (low : Bool). if low then pos a else pos a -ℤ pos (words t)) (le-ltb a (words t / 2) (omega (arith, h, halves t)))
    ∙ minus_words (words t) a (omega (arith, h, halves t)) ∙ ap negsuc (omega (arith, h, halves t))

opposite_small : (H n : ℕ) → 0 < H → int_le (pos H) (neg_ℤ (pos n)) ≡ false
opposite_small H zero h = lt-leb H 0 h
opposite_small H (suc n) h = refl

opposite_lt : (H n : ℕ) → n ≤ H → 0 < H → mag (neg_ℤ (pos n)) < H
opposite_lt H zero h k = k
opposite_lt H (suc n) h k = h

-- the only quotient that is too large
pub large_quotient : (H : ℕ) (x y : ℤ) → mag x < H → mag y < H → int_le (pos H) (int_div x y) ≡ true → (x ≡ negsuc (H - 1)) × (y ≡ negsuc 0)
large_quotient H (pos n) (pos m) h k e = absurd (omega (arith, leb-true H (n / m) e, div-le_self n m, h))
large_quotient H (pos n) (negsuc m) h k e =
    absurd (true≢false (sym e ∙ opposite_small H (n / suc m) (omega (arith, h))))
large_quotient H (negsuc n) (pos m) h k e =
    absurd (true≢false (sym e ∙ opposite_small H (suc n / m) (omega (arith, h))))
large_quotient H (negsuc n) (negsuc zero) h k e =
    (ap negsuc (omega (arith, leb-true H (suc n / 1) e, div-one (suc n), h)), refl)
large_quotient H (negsuc n) (negsuc (suc m)) h k e =
    absurd (omega (arith, leb-true H (suc n / suc (suc m)) e, div-lt_self {n = suc n} {k = suc (suc m)} (omega arith) (omega arith), h))

-- any other is a signed reading
pub small_quotient : (H : ℕ) (x y : ℤ) → mag x < H → int_le (pos H) (int_div x y) ≡ false → mag (int_div x y) < H
small_quotient H (pos n) (pos m) h e = leb-false H (n / m) e
small_quotient H (pos n) (negsuc m) h e = opposite_lt H (n / suc m) (omega (arith, div-le_self n (suc m), h)) (omega (arith, h))
small_quotient H (negsuc n) (pos m) h e = opposite_lt H (suc n / m) (omega (arith, div-le_self (suc n) m, h)) (omega (arith, h))
small_quotient H (negsuc n) (negsuc m) h e = leb-false H (suc n / suc m) e
