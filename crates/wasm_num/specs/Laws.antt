-- What the definitions promise, in the standard's words (Core 1.0, section 4.3.2).
pub mod Digits
pub mod Rotations
pub mod Fits
use Rattle.std.specs.Prelude.{◌≡◌, ℕ, ◌+◌, ◌-◌, ◌*◌, ◌/◌, ◌<◌, Bool, true, false, ◌⊎◌, ◌↔◌, ◌+ℤ◌, ◌*ℤ◌, Ok, Err, IfOk, IsTrue}
use Rattle.wasm_ast.specs.Types.{words}
use Rattle.wasm_ast.specs.declared.types.ValueType.{ValueType}
use Rattle.wasm_ast.specs.declared.types.ValueType.TheVariants.{I32}
use Rattle.wasm_ast.specs.declared.trap.Trap.{Trap}
use Rattle.wasm_ast.specs.declared.trap.Trap.TheVariants.{DivideByZero, IntegerOverflow}
use Rattle.wasm_ast.specs.declared.operators.BinaryOp.{BinaryOp}
use Rattle.wasm_ast.specs.declared.operators.BinaryOp.TheVariants.{DivS, DivU, RemS, RemU}
use Rattle.wasm_ast.specs.declared.operators.UnaryOp.{UnaryOp}
use Rattle.wasm_ast.specs.declared.operators.CompareOp.{CompareOp}
use Rattle.wasm_ast.specs.declared.operators.ConvertOp.{ConvertOp}
use Rattle.wasm_num.specs.Operators.{signed, unsigned, binary, unary, compare, convert, operand_type, result_type}

-- ---- each result is a word of its type, where the operands are words

abbrev pub BinaryFits : Type 0
BinaryFits =
    (t : ValueType) (o : BinaryOp) (a b : ℕ) → a < words t → b < words t → IfOk (binary t o a b) (λ r. r < words t)

abbrev pub UnaryFits : Type 0
UnaryFits = (t : ValueType) (o : UnaryOp) (a : ℕ) → a < words t → unary t o a < words t

abbrev pub CompareFits : Type 0
CompareFits = (t : ValueType) (o : CompareOp) (a b : ℕ) → compare t o a b < words I32

abbrev pub ConvertFits : Type 0
ConvertFits = (o : ConvertOp) (a : ℕ) → a < words (operand_type o) → convert o a < words (result_type o)

-- ---- traps

-- the operators that divide
abbrev pub divides : BinaryOp → Bool
divides DivS = true
divides DivU = true
divides RemS = true
divides RemU = true
divides _ = false

-- to divide by zero is a trap
abbrev pub ZeroTraps : Type 0
ZeroTraps =
    (t : ValueType) (o : BinaryOp) (a b : ℕ) → (binary t o a b ≡ Err DivideByZero) ↔ (IsTrue (divides o) × (b ≡ 0))

-- so is the signed quotient of the least number, -2^(N-1), by -1
abbrev pub OverflowTraps : Type 0
OverflowTraps =
    (t : ValueType) (o : BinaryOp) (a b : ℕ) → a < words t → b < words t →
    (binary t o a b ≡ Err IntegerOverflow) ↔ ((o ≡ DivS) × (a ≡ words t / 2) × (b ≡ words t - 1))

-- and there is no other
abbrev pub NoOtherTraps : Type 0
NoOtherTraps =
    (t : ValueType) (o : BinaryOp) (a b : ℕ) (e : Trap) → binary t o a b ≡ Err e → (e ≡ DivideByZero) ⊎ (e ≡ IntegerOverflow)

-- ---- a quotient times the divisor, and the remainder, are the dividend, by either reading

abbrev pub DividesUnsigned : Type 0
DividesUnsigned =
    (t : ValueType) (a b q r : ℕ) → binary t DivU a b ≡ Ok q → binary t RemU a b ≡ Ok r → q * b + r ≡ a

abbrev pub DividesSigned : Type 0
DividesSigned =
    (t : ValueType) (a b q r : ℕ) → a < words t → b < words t → binary t DivS a b ≡ Ok q → binary t RemS a b ≡ Ok r →
    (signed t q *ℤ signed t b) +ℤ signed t r ≡ signed t a

-- ---- the signed reading and its word

abbrev pub WordOfReading : Type 0
WordOfReading = (t : ValueType) (a : ℕ) → a < words t → unsigned t (signed t a) ≡ a
