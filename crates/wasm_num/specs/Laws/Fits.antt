-- Each result is a word of its type, where the operands are words.
use Rattle.std.proofs.Common.{◌≡◌, ℕ, zero, suc, ◌+◌, ◌-◌, ◌*◌, ◌/◌, ◌%◌, ◌^◌, ◌<◌, ◌≤◌, Bool, true, false, leb, nat_eq, nat_lt, bit_or, bit_xor, ℤ, pos}
use Rattle.std.proofs.Common.{negsuc, neg_ℤ, ◌-ℤ◌, int_le, int_div, int_rem, if◌then◌else◌, Result, Ok, Err, IfOk, refl, sym, ap, subst, ◌∙◌, arith, mod-lt}
use Rattle.std.proofs.Common.{lt_of_le_of_lt, le_of_lt, le_trans, leb-false, pow_pos, pow_mono}
use Rattle.std.proofs.Math.Nat.{mod-le, div-le_self}
use Rattle.std.proofs.lemmas.Int.{ints}
use Rattle.std.specs.Int.{int_shr}
use lib.Bits.{and_le_l, or_lt, xor_lt}
use Rattle.wasm_ast.specs.Types.{bits, words}
use Rattle.wasm_ast.specs.declared.types.ValueType.{ValueType}
use Rattle.wasm_ast.specs.declared.types.ValueType.TheVariants.{I32, I64}
use Rattle.wasm_ast.specs.declared.trap.Trap.{Trap}
use Rattle.wasm_ast.specs.declared.trap.Trap.TheVariants.{DivideByZero, IntegerOverflow}
use Rattle.wasm_ast.specs.declared.operators.BinaryOp.{BinaryOp}
use Rattle.wasm_ast.specs.declared.operators.BinaryOp.TheVariants.{Add, Sub, Mul, DivS, DivU, RemS, RemU, And, Or, Xor, Shl, ShrS, ShrU, Rotl, Rotr}
use Rattle.wasm_ast.specs.declared.operators.UnaryOp.{UnaryOp}
use Rattle.wasm_ast.specs.declared.operators.UnaryOp.TheVariants.{Clz, Ctz, Popcnt, Extend8S, Extend16S, Extend32S}
use Rattle.wasm_ast.specs.declared.operators.CompareOp.{CompareOp}
use Rattle.wasm_ast.specs.declared.operators.CompareOp.TheVariants.{Eq, Ne, LtS, LtU, GtS, GtU, LeS, LeU, GeS, GeU}
use Rattle.wasm_ast.specs.declared.operators.ConvertOp.{ConvertOp}
use Rattle.wasm_ast.specs.declared.operators.ConvertOp.TheVariants.{WrapI64, ExtendI32S, ExtendI32U}
use Rattle.wasm_num.specs.Operators.{signed, unsigned, places, around, binary, unary, extended, truth, compare, convert, operand_type, result_type}
use Rattle.wasm_num.specs.Laws.Rotations.{around_lt}
use Rattle.wasm_num.specs.Laws.Digits.{sum_digits_le, zeros_before_digits_le, zeros_before_reverse_digits_le}

-- ---- words and readings

words_pos : (t : ValueType) → 0 < words t
words_pos I32 = omega arith
words_pos I64 = omega arith

words-is : (t : ValueType) → words t ≡ 2 ^ bits t
words-is I32 = refl
words-is I64 = refl

bits_lt : (t : ValueType) (n : ℕ) → n ≤ bits t → n < words t
bits_lt I32 n h = omega (arith, h)
bits_lt I64 n h = omega (arith, h)

places_lt : (t : ValueType) (b : ℕ) → places t b < bits t
places_lt I32 b = omega arith
places_lt I64 b = omega arith

negative_fits : (t : ValueType) (n : ℕ) → words t - suc n < words t
negative_fits t n = omega (arith, words_pos t)

-- a word less the number of all words
pub minus_words : (w a : ℕ) → a < w → pos a -ℤ pos w ≡ negsuc (w - suc a)
minus_words w a h = omega (arith, ints, h)

unsigned_reading : (t : ValueType) (a : ℕ) (low : Bool) → a < words t → unsigned t (if low then pos a else pos a -ℤ pos (words t)) ≡ a
unsigned_reading t a true h = refl
unsigned_reading t a false h = ap (unsigned t) (minus_words (words t) a h) ∙ omega (arith, h)

-- a word is the word of its signed reading
pub unsigned-signed : (t : ValueType) (a : ℕ) → a < words t → unsigned t (signed t a) ≡ a
unsigned-signed t a h = unsigned_reading t a (nat_lt a (words t / 2)) h

unless : (trapped : Bool) (e : Trap) (r : Result ℕ Trap) (P : ℕ → Type 0) → (trapped ≡ false → IfOk r P) → IfOk (if trapped then Err e else r) P
unless true e r P f = tt
unless false e r P f = f refl

quotient_fits : (t : ValueType) (q : ℤ) → IfOk (if int_le (pos (words t / 2)) q then Err IntegerOverflow else Ok (unsigned t q)) (λ r. r < words t)
quotient_fits t (pos n) =
    unless (leb (words t / 2) n) IntegerOverflow (Ok n) (λ r. r < words t) (λ e. omega (arith, leb-false _ _ e, words_pos t))
quotient_fits t (negsuc n) = negative_fits t n

opposite_fits : (t : ValueType) (n : ℕ) → unsigned t (neg_ℤ (pos n)) < words t
opposite_fits t zero = words_pos t
opposite_fits t (suc n) = negative_fits t n

remainder_fits : (t : ValueType) (x d : ℤ) → unsigned t x < words t → unsigned t (int_rem x d) < words t
remainder_fits t (pos n) d h = lt_of_le_of_lt (mod-le n _) h
remainder_fits t (negsuc n) d h = opposite_fits t _

shift_fits : (t : ValueType) (x : ℤ) (k : ℕ) → unsigned t x < words t → unsigned t (int_shr x k) < words t
shift_fits t (pos n) k h = lt_of_le_of_lt (div-le_self n (2 ^ k)) h
shift_fits t (negsuc n) k h = negative_fits t (n / 2 ^ k)

signed_fits : (t : ValueType) (a : ℕ) → a < words t → unsigned t (signed t a) < words t
signed_fits t a h = subst (λ (n : ℕ). n < words t) (sym (unsigned-signed t a h)) h

below : (t : ValueType) (a : ℕ) → a < words t → a < 2 ^ bits t
below t a h = subst (λ (n : ℕ). a < n) (words-is t) h

around_fits : (t : ValueType) (a k : ℕ) → k ≤ bits t → a < words t → around t (a * 2 ^ k) < words t
around_fits t a k h f =
    subst (λ (n : ℕ). (a * 2 ^ k) % n + (a * 2 ^ k) / n < n) (sym (words-is t)) (around_lt (bits t) k a h (below t a f))

-- a number below w that is read as one from -w/2 on fits where w numbers do
reading_fits : (t : ValueType) (w a : ℕ) (low : Bool) → a < w → w ≤ words t → unsigned t (if low then pos a else pos a -ℤ pos w) < words t
reading_fits t w a true h k = omega (arith, h, k)
reading_fits t w a false h k = subst (λ (z : ℤ). unsigned t z < words t) (sym (minus_words w a h)) (negative_fits t (w - suc a))

-- 32 bits and fewer are those of a word
up_to_32 : (t : ValueType) (m : ℕ) → m ≤ 32 → 2 ^ m ≤ words t
up_to_32 I32 m h = pow_mono h
up_to_32 I64 m h = le_trans (pow_mono h) (omega arith)

extended_fits : (t : ValueType) (m a : ℕ) → 2 ^ m ≤ words t → extended t m a < words t
extended_fits t m a k = reading_fits t (2 ^ m) (a % 2 ^ m) _ (mod-lt a (pow_pos m)) k

-- ---- the operators

pub binary_fits : (t : ValueType) (o : BinaryOp) (a b : ℕ) → a < words t → b < words t → IfOk (binary t o a b) (λ r. r < words t)
binary_fits t Add a b h k = mod-lt (a + b) (words_pos t)
binary_fits t Sub a b h k = mod-lt (a + words t - b) (words_pos t)
binary_fits t Mul a b h k = mod-lt (a * b) (words_pos t)
binary_fits t DivS a b h k =
    unless (nat_eq b 0) DivideByZero _ (λ r. r < words t) (λ _. quotient_fits t (int_div (signed t a) (signed t b)))
binary_fits t DivU a b h k =
    unless (nat_eq b 0) DivideByZero (Ok (a / b)) (λ r. r < words t) (λ _. lt_of_le_of_lt (div-le_self a b) h)
binary_fits t RemS a b h k =
    unless (nat_eq b 0) DivideByZero _ (λ r. r < words t) (λ _. remainder_fits t (signed t a) (signed t b) (signed_fits t a h))
binary_fits t RemU a b h k =
    unless (nat_eq b 0) DivideByZero (Ok (a % b)) (λ r. r < words t) (λ _. lt_of_le_of_lt (mod-le a b) h)
binary_fits t And a b h k = lt_of_le_of_lt (and_le_l a b) h
binary_fits t Or a b h k =
    subst (λ (n : ℕ). bit_or a b < n) (sym (words-is t)) (or_lt (bits t) a b (below t a h) (below t b k))
binary_fits t Xor a b h k =
    subst (λ (n : ℕ). bit_xor a b < n) (sym (words-is t)) (xor_lt (bits t) a b (below t a h) (below t b k))
binary_fits t Shl a b h k = mod-lt (a * 2 ^ places t b) (words_pos t)
binary_fits t ShrS a b h k = shift_fits t (signed t a) (places t b) (signed_fits t a h)
binary_fits t ShrU a b h k = lt_of_le_of_lt (div-le_self a (2 ^ places t b)) h
binary_fits t Rotl a b h k = around_fits t a (places t b) (le_of_lt (places_lt t b)) h
binary_fits t Rotr a b h k = around_fits t a (bits t - places t b) (omega arith) h

pub unary_fits : (t : ValueType) (o : UnaryOp) (a : ℕ) → a < words t → unary t o a < words t
unary_fits t Clz a h = bits_lt t _ (zeros_before_digits_le (bits t) a (below t a h))
unary_fits t Ctz a h = bits_lt t _ (zeros_before_reverse_digits_le (bits t) a)
unary_fits t Popcnt a h = bits_lt t _ (sum_digits_le (bits t) a (below t a h))
unary_fits t Extend8S a h = extended_fits t 8 a (up_to_32 t 8 (omega arith))
unary_fits t Extend16S a h = extended_fits t 16 a (up_to_32 t 16 (omega arith))
unary_fits t Extend32S a h = extended_fits t 32 a (up_to_32 t 32 (omega arith))

truth_fits : (b : Bool) → truth b < words I32
truth_fits true = omega arith
truth_fits false = omega arith

pub compare_fits : (t : ValueType) (o : CompareOp) (a b : ℕ) → compare t o a b < words I32
compare_fits t Eq a b = truth_fits _
compare_fits t Ne a b = truth_fits _
compare_fits t LtS a b = truth_fits _
compare_fits t LtU a b = truth_fits _
compare_fits t GtS a b = truth_fits _
compare_fits t GtU a b = truth_fits _
compare_fits t LeS a b = truth_fits _
compare_fits t LeU a b = truth_fits _
compare_fits t GeS a b = truth_fits _
compare_fits t GeU a b = truth_fits _

pub convert_fits : (o : ConvertOp) (a : ℕ) → a < words (operand_type o) → convert o a < words (result_type o)
convert_fits WrapI64 a h = omega arith
convert_fits ExtendI32S a h = reading_fits I64 (words I32) a (nat_lt a (words I32 / 2)) h (omega arith)
convert_fits ExtendI32U a h = omega (arith, h)
