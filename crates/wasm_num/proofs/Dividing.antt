-- Quotients and remainders.
use Rattle.std.proofs.Common.{◌≡◌, ℕ, ◌+◌, ◌*◌, ◌/◌, ◌<◌, nat_eq, pos, int_le, int_div, int_rem, ◌+ℤ◌, ◌*ℤ◌, Result, Ok, Err, sym, ap, ap₂, ◌∙◌, lt_of_le_of_lt}
use Rattle.std.proofs.Math.Nat.{div-add-mod'}
use Rattle.std.proofs.lemmas.Int.{quot-rem}
use lib.Signed.{mag_rem}
use Rattle.wasm_ast.specs.Types.{words}
use Rattle.wasm_ast.specs.declared.types.ValueType.{ValueType}
use Rattle.wasm_ast.specs.declared.trap.Trap.{Trap}
use Rattle.wasm_ast.specs.declared.trap.Trap.TheVariants.{DivideByZero, IntegerOverflow}
use Rattle.wasm_ast.specs.declared.operators.BinaryOp.TheVariants.{DivS, RemS}
use Rattle.wasm_num.specs.Operators.{signed, binary}
use Rattle.wasm_num.specs.Laws.{DividesUnsigned, DividesSigned}
use Rattle.wasm_num.proofs.Readings.{mag-signed_lt, signed-unsigned, small_quotient}
use Rattle.wasm_num.proofs.Trapping.{if_goes_on}

abbrev word_or : ℕ → Result ℕ Trap → ℕ
word_or d (Ok n) = n
word_or d (Err e) = d

ok_inj : (m n : ℕ) → Path (Result ℕ Trap) (Ok m) (Ok n) → m ≡ n
ok_inj m n h = ap (word_or m) h

pub divides_unsigned : DividesUnsigned
divides_unsigned t a b q r h k =
    let quotient = ok_inj _ _ (if_goes_on (nat_eq b 0) DivideByZero _ q h).1 in
    let remainder = ok_inj _ _ (if_goes_on (nat_eq b 0) DivideByZero _ r k).1 in
    ap₂ (λ (x y : ℕ). x * b + y) (sym quotient) (sym remainder) ∙ div-add-mod' a b

-- the readings of a quotient and of a remainder
quotient_reading : (t : ValueType) (a b q : ℕ) → a < words t → binary t DivS a b ≡ Ok q → signed t q ≡ int_div (signed t a) (signed t b)
quotient_reading t a b q f h =
    let z = int_div (signed t a) (signed t b) in
    let small = if_goes_on (int_le (pos (words t / 2)) z) IntegerOverflow _ q (if_goes_on (nat_eq b 0) DivideByZero _ q h).1 in
    ap (signed t) (sym (ok_inj _ _ small.1))
    ∙ signed-unsigned t z (small_quotient (words t / 2) (signed t a) (signed t b) (mag-signed_lt t a f) small.0)

remainder_reading : (t : ValueType) (a b r : ℕ) → a < words t → binary t RemS a b ≡ Ok r → signed t r ≡ int_rem (signed t a) (signed t b)
remainder_reading t a b r f h =
    ap (signed t) (sym (ok_inj _ _ (if_goes_on (nat_eq b 0) DivideByZero _ r h).1))
    ∙ signed-unsigned t (int_rem (signed t a) (signed t b)) (lt_of_le_of_lt (mag_rem (signed t a) (signed t b)) (mag-signed_lt t a f))

pub divides_signed : DividesSigned
divides_signed t a b q r f g h k =
    ap₂ (λ x y. (x *ℤ signed t b) +ℤ y) (quotient_reading t a b q f h) (remainder_reading t a b r f k)
    ∙ quot-rem (signed t a) (signed t b)
