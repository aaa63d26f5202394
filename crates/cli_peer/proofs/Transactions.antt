-- The transactions of a block, one after another.
use Rattle.std.proofs.Common.{◌≡◌, ◌+◌, ◌<◌, ℕ, List, [], ◌∷◌, get_or, length, zero, suc, refl, ap, arith}
use Rattle.ledger_model.specs.Chain.{Envelope, Flag, Placed, transactions_from}

abbrev pub placed : (block place : ℕ) → Envelope → Flag → Placed
placed block place e f = record { version = record { block = block; place = place }; envelope = e; flag = f }

-- there are as many as envelopes
pub length-transactions : (block place : ℕ) (es : List Envelope) (fs : List Flag) → length fs ≡ length es →
    length (transactions_from block place es fs) ≡ length es
length-transactions block place [] fs same = refl
length-transactions block place (e ∷ es) [] same = absurd (omega (arith, same))
length-transactions block place (e ∷ es) (f ∷ fs) same = ap suc (length-transactions block (suc place) es fs (omega (arith, same)))

-- the one at a place
pub transaction_at : (block place : ℕ) (es : List Envelope) (fs : List Flag) (i : ℕ) (e : Envelope) (f : Flag) (d : Placed) → length fs ≡ length es →
    i < length es → e ≡ get_or es i e → f ≡ get_or fs i f → placed block (place + i) e f ≡ get_or (transactions_from block place es fs) i d
transaction_at block place [] fs i e f d same within is_e is_f = absurd (omega (arith, within))
transaction_at block place (x ∷ es) [] i e f d same within is_e is_f = absurd (omega (arith, same))
transaction_at block place (x ∷ es) (y ∷ fs) zero e f d same within is_e is_f = (let none : place + 0 ≡ place = omega arith in cc (none, is_e, is_f))
transaction_at block place (x ∷ es) (y ∷ fs) (suc i) e f d same within is_e is_f =
    let next : place + suc i ≡ suc place + i = omega arith in
    rw next (transaction_at block (suc place) es fs i e f d (omega (arith, same)) (omega (arith, within)) is_e is_f)
