-- Which operands trap.
use Rattle.std.proofs.Common.{◌≡◌, ℕ, ◌-◌, ◌/◌, ◌<◌, Bool, true, false, nat_eq, ◌⊎◌, inl, inr, pos, negsuc, int_le, int_div, if◌then◌else◌, Result, Ok, Err}
use Rattle.std.proofs.Common.{is_ok, refl, sym, ap, ap₂, subst, ◌∙◌, arith, IsTrue, eqb-true, true≢false}
use Rattle.wasm_ast.specs.Types.{words}
use Rattle.wasm_ast.specs.Traps.{trap_number}
use Rattle.wasm_ast.specs.declared.types.ValueType.{ValueType}
use Rattle.wasm_ast.specs.declared.types.ValueType.TheVariants.{I32, I64}
use Rattle.wasm_ast.specs.declared.trap.Trap.{Trap}
use Rattle.wasm_ast.specs.declared.trap.Trap.TheVariants.{DivideByZero, IntegerOverflow}
use Rattle.wasm_ast.specs.declared.operators.BinaryOp.{BinaryOp}
use Rattle.wasm_ast.specs.declared.operators.BinaryOp.TheVariants.{Add, Sub, Mul, DivS, DivU, RemS, RemU, And, Or, Xor, Shl, ShrS, ShrU, Rotl, Rotr}
use Rattle.wasm_num.specs.Operators.{signed, unsigned, binary}
use Rattle.wasm_num.specs.Laws.{divides, ZeroTraps, OverflowTraps, NoOtherTraps}
use Rattle.wasm_num.proofs.Readings.{halves, half_pos, mag-signed_lt, large_quotient}
use Rattle.wasm_num.specs.Laws.Fits.{unsigned-signed}

abbrev trap_or : Trap → Result ℕ Trap → Trap
trap_or d (Ok n) = d
trap_or d (Err e) = e

err_inj : (e f : Trap) → Path (Result ℕ Trap) (Err e) (Err f) → e ≡ f
err_inj e f h = ap (trap_or e) h

pub no_trap : (n : ℕ) (e : Trap) → Path (Result ℕ Trap) (Ok n) (Err e) → ⊥
no_trap n e h = true≢false (ap is_ok h)

-- what traps by a test traps so, or goes on to trap
if_traps : (c : Bool) (e f : Trap) (x : Result ℕ Trap) → (if c then Err e else x) ≡ Err f → ((c ≡ true) × (e ≡ f)) ⊎ (x ≡ Err f)
if_traps true e f x h = inl (refl, err_inj e f h)
if_traps false e f x h = inr h

-- what does not trap passes the test
pub if_goes_on : (c : Bool) (e : Trap) (x : Result ℕ Trap) (r : ℕ) → (if c then Err e else x) ≡ Ok r → (c ≡ false) × (x ≡ Ok r)
if_goes_on true e x r h = absurd (no_trap r e (sym h))
if_goes_on false e x r h = (refl, h)

zero_by : (b : ℕ) (x : Result ℕ Trap) → (if nat_eq b 0 then Err DivideByZero else x) ≡ Err DivideByZero → (x ≡ Err DivideByZero → ⊥) → b ≡ 0
zero_by b x h n =
    elim (if_traps (nat_eq b 0) DivideByZero DivideByZero x h) [ inl p ↦ eqb-true b 0 p.0 | inr k ↦ absurd (n k) ]

two_traps : DivideByZero ≡ IntegerOverflow → ⊥
two_traps e = absurd (omega (arith, ap trap_number e))

zero_alone : (b : ℕ) (x : Result ℕ Trap) → (if nat_eq b 0 then Err DivideByZero else x) ≡ Err IntegerOverflow → (x ≡ Err IntegerOverflow → ⊥) → ⊥
zero_alone b x h n =
    elim (if_traps (nat_eq b 0) DivideByZero IntegerOverflow x h) [ inl p ↦ two_traps p.1 | inr k ↦ n k ]

goes_on_to : (c : Bool) (n : ℕ) → (if c then Err IntegerOverflow else Ok n) ≡ Err DivideByZero → ⊥
goes_on_to true n h = two_traps (sym (err_inj IntegerOverflow DivideByZero h))
goes_on_to false n h = no_trap n DivideByZero h

zero_forward : (t : ValueType) (o : BinaryOp) (a b : ℕ) → binary t o a b ≡ Err DivideByZero → IsTrue (divides o) × (b ≡ 0)
zero_forward t DivS a b h = (refl, zero_by b _ h (goes_on_to _ _))
zero_forward t DivU a b h = (refl, zero_by b _ h (no_trap _ _))
zero_forward t RemS a b h = (refl, zero_by b _ h (no_trap _ _))
zero_forward t RemU a b h = (refl, zero_by b _ h (no_trap _ _))
zero_forward t Add a b h = absurd (no_trap _ _ h)
zero_forward t Sub a b h = absurd (no_trap _ _ h)
zero_forward t Mul a b h = absurd (no_trap _ _ h)
zero_forward t And a b h = absurd (no_trap _ _ h)
zero_forward t Or a b h = absurd (no_trap _ _ h)
zero_forward t Xor a b h = absurd (no_trap _ _ h)
zero_forward t Shl a b h = absurd (no_trap _ _ h)
zero_forward t ShrS a b h = absurd (no_trap _ _ h)
zero_forward t ShrU a b h = absurd (no_trap _ _ h)
zero_forward t Rotl a b h = absurd (no_trap _ _ h)
zero_forward t Rotr a b h = absurd (no_trap _ _ h)

zero_back : (t : ValueType) (o : BinaryOp) (a : ℕ) → IsTrue (divides o) → binary t o a 0 ≡ Err DivideByZero
zero_back t DivS a d = refl
zero_back t DivU a d = refl
zero_back t RemS a d = refl
zero_back t RemU a d = refl
zero_back t Add a d = absurd (true≢false (sym d))
zero_back t Sub a d = absurd (true≢false (sym d))
zero_back t Mul a d = absurd (true≢false (sym d))
zero_back t And a d = absurd (true≢false (sym d))
zero_back t Or a d = absurd (true≢false (sym d))
zero_back t Xor a d = absurd (true≢false (sym d))
zero_back t Shl a d = absurd (true≢false (sym d))
zero_back t ShrS a d = absurd (true≢false (sym d))
zero_back t ShrU a d = absurd (true≢false (sym d))
zero_back t Rotl a d = absurd (true≢false (sym d))
zero_back t Rotr a d = absurd (true≢false (sym d))

pub zero_traps : ZeroTraps
zero_traps t o a b =
    (zero_forward t o a b, λ p. subst (λ (n : ℕ). binary t o a n ≡ Err DivideByZero) (sym p.1) (zero_back t o a p.0))

-- the words of the readings that overflow
words_of : (t : ValueType) (a b : ℕ) → a < words t → b < words t → (signed t a ≡ negsuc (words t / 2 - 1)) × (signed t b ≡ negsuc 0) →
    (a ≡ words t / 2) × (b ≡ words t - 1)
words_of t a b h k p =
    (sym (unsigned-signed t a h) ∙ ap (unsigned t) p.0 ∙ omega (arith, halves t, half_pos t), sym (unsigned-signed t b k) ∙ ap (unsigned t) p.1)

overflow_by : (t : ValueType) (a b : ℕ) → a < words t → b < words t → binary t DivS a b ≡ Err IntegerOverflow → (a ≡ words t / 2) × (b ≡ words t - 1)
overflow_by t a b h k e =
    elim (if_traps (nat_eq b 0) DivideByZero IntegerOverflow _ e) [
      | inl p ↦ absurd (two_traps p.1)
      | inr f ↦ elim (if_traps (int_le (pos (words t / 2)) (int_div (signed t a) (signed t b))) IntegerOverflow IntegerOverflow _ f) [
        | inl p ↦ words_of t a b h k (large_quotient (words t / 2) (signed t a) (signed t b) (mag-signed_lt t a h) (mag-signed_lt t b k) p.0)
        | inr g ↦ absurd (no_trap _ _ g)
      ]
    ]

overflow_forward : (t : ValueType) (o : BinaryOp) (a b : ℕ) → a < words t → b < words t → binary t o a b ≡ Err IntegerOverflow →
    (o ≡ DivS) × (a ≡ words t / 2) × (b ≡ words t - 1)
overflow_forward t DivS a b h k e = let p = overflow_by t a b h k e in (refl, p.0, p.1)
overflow_forward t DivU a b h k e = absurd (zero_alone b _ e (no_trap _ _))
overflow_forward t RemS a b h k e = absurd (zero_alone b _ e (no_trap _ _))
overflow_forward t RemU a b h k e = absurd (zero_alone b _ e (no_trap _ _))
overflow_forward t Add a b h k e = absurd (no_trap _ _ e)
overflow_forward t Sub a b h k e = absurd (no_trap _ _ e)
overflow_forward t Mul a b h k e = absurd (no_trap _ _ e)
overflow_forward t And a b h k e = absurd (no_trap _ _ e)
overflow_forward t Or a b h k e = absurd (no_trap _ _ e)
overflow_forward t Xor a b h k e = absurd (no_trap _ _ e)
overflow_forward t Shl a b h k e = absurd (no_trap _ _ e)
overflow_forward t ShrS a b h k e = absurd (no_trap _ _ e)
overflow_forward t ShrU a b h k e = absurd (no_trap _ _ e)
overflow_forward t Rotl a b h k e = absurd (no_trap _ _ e)
overflow_forward t Rotr a b h k e = absurd (no_trap _ _ e)

overflow_back : (t : ValueType) → binary t DivS (words t / 2) (words t - 1) ≡ Err IntegerOverflow
overflow_back I32 = refl
overflow_back I64 = refl

pub overflow_traps : OverflowTraps
overflow_traps t o a b h k = (
  overflow_forward t o a b h k,
  λ p. ap (λ (x : BinaryOp). binary t x a b) p.0 ∙ ap₂ (binary t DivS) p.1 p.2 ∙ overflow_back t,
)

zero_or_not : (b : ℕ) (e : Trap) (x : Result ℕ Trap) → (if nat_eq b 0 then Err DivideByZero else x) ≡ Err e → (x ≡ Err e → e ≡ IntegerOverflow) →
    (e ≡ DivideByZero) ⊎ (e ≡ IntegerOverflow)
zero_or_not b e x h n =
    elim (if_traps (nat_eq b 0) DivideByZero e x h) [ inl p ↦ inl (sym p.1) | inr k ↦ inr (n k) ]

overflow_or_not : (c : Bool) (n : ℕ) (e : Trap) → (if c then Err IntegerOverflow else Ok n) ≡ Err e → e ≡ IntegerOverflow
overflow_or_not true n e h = sym (err_inj IntegerOverflow e h)
overflow_or_not false n e h = absurd (no_trap n e h)

pub no_other_traps : NoOtherTraps
no_other_traps t DivS a b e h = zero_or_not b e _ h (overflow_or_not _ _ e)
no_other_traps t DivU a b e h = zero_or_not b e _ h (λ k. absurd (no_trap _ _ k))
no_other_traps t RemS a b e h = zero_or_not b e _ h (λ k. absurd (no_trap _ _ k))
no_other_traps t RemU a b e h = zero_or_not b e _ h (λ k. absurd (no_trap _ _ k))
no_other_traps t Add a b e h = absurd (no_trap _ _ h)
no_other_traps t Sub a b e h = absurd (no_trap _ _ h)
no_other_traps t Mul a b e h = absurd (no_trap _ _ h)
no_other_traps t And a b e h = absurd (no_trap _ _ h)
no_other_traps t Or a b e h = absurd (no_trap _ _ h)
no_other_traps t Xor a b e h = absurd (no_trap _ _ h)
no_other_traps t Shl a b e h = absurd (no_trap _ _ h)
no_other_traps t ShrS a b e h = absurd (no_trap _ _ h)
no_other_traps t ShrU a b e h = absurd (no_trap _ _ h)
no_other_traps t Rotl a b e h = absurd (no_trap _ _ h)
no_other_traps t Rotr a b e h = absurd (no_trap _ _ h)
