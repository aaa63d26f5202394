-- What is got of each seat, once none is missing.
use Rattle.std.proofs.Common.{◌≡◌, ◌≢◌, ◌⊎◌, ℕ, zero, suc, ◌<◌, ◌≤◌, ◌+◌, Bool, List, [], ◌∷◌, ◌++◌, length, refl, sym, ◌∙◌, ap, inl, inr}
use Rattle.std.proofs.Common.{⊎_elim, eq-eqb, ne_eqb, lt_of_not-le, arith}
use Rattle.std.specs.Prelude.{if◌then◌else◌}
use Rattle.std.proofs.lemmas.Bool.Decides.{eqb_tells}
use mathlib.Core.Option.{some, some-ne-none}
use lib.ListN.{get_elem?}
use Rattle.fab_types.specs.declared.envelope.Envelope.{Envelope}
use Rattle.intake.specs.declared.rule.Parcel.{Parcel}
use Rattle.intake.specs.Mail.{of}
use Rattle.seat_threads.specs.Reports.{AreGot}
use Rattle.seat_threads.specs.Rounds.{Outcome, envelopes_in}
use Rattle.seat_threads.specs.Work.{puts_of, total_of}
use Rattle.seat_threads.proofs.Sums.{endorsed_in}

known_last : {X : Type 0} (xs : List X) (x : X) → get_elem? (xs ++ x ∷ []) (length xs) ≡ some x
known_last [] x = refl
known_last (y ∷ xs) x = known_last xs x

known_left : {X : Type 0} (xs ys : List X) (j : ℕ) (x : X) → get_elem? xs j ≡ some x → get_elem? (xs ++ ys) j ≡ some x
known_left [] ys j x at = absurd (some-ne-none x (sym at))
known_left (y ∷ xs) ys zero x at = at
known_left (y ∷ xs) ys (suc j) x at = known_left xs ys j x at

-- each seat is known, and what was got of it is all that it put
pub all_got : (got : List Parcel) (seat : ℕ) (seats : List (List Outcome))
    → ((j p : ℕ) (all : List Envelope) → get_elem? (puts_of seat seats) j ≡ some (p, all) → of p got ≡ all) → AreGot got seat seats
all_got got seat [] known = tt
all_got got seat (outcomes ∷ others) known =
    let front = puts_of (seat + 1) others in (
      known (length front) seat (envelopes_in outcomes) (known_last front (seat, envelopes_in outcomes)),
      all_got got (seat + 1) others (λ j p all at. known j p all (known_left front ((seat, envelopes_in outcomes) ∷ []) j (p, all) at)),
    )

-- how many were got of so many seats from this one on
abbrev sizes : List Parcel → ℕ → ℕ → ℕ
sizes got seat zero = 0
sizes got seat (suc n) = length (of seat got) + sizes got (seat + 1) n

pub of_other : (p : ℕ) (x : Parcel) (got : List Parcel) → p ≢ x.from → of p (x ∷ got) ≡ of p got
of_other p x got other = ap (λ (b : Bool). if b then x.envelope ∷ of p got else of p got) (ne_eqb p x.from other)

pub of_here : (p : ℕ) (x : Parcel) (got : List Parcel) → p ≡ x.from → of p (x ∷ got) ≡ x.envelope ∷ of p got
of_here p x got here = ap (λ (b : Bool). if b then x.envelope ∷ of p got else of p got) (eq-eqb p x.from here)

sizes-none : (seat n : ℕ) → sizes [] seat n ≡ 0
sizes-none seat zero = refl
sizes-none seat (suc n) = omega (arith, sizes-none (seat + 1) n)

sizes-below : (x : Parcel) (got : List Parcel) (seat n : ℕ) → x.from < seat → sizes (x ∷ got) seat n ≡ sizes got seat n
sizes-below x got seat zero below = refl
sizes-below x got seat (suc n) below =
    let other : seat ≢ x.from = λ e. omega (arith, e, below) in
    let rest = sizes-below x got (seat + 1) n (omega (arith, below)) in
    omega (arith, ap (λ (es : List Envelope). length es) (of_other seat x got other), rest)

pub same_or_not : (a b : ℕ) → (a ≡ b) ⊎ (a ≢ b)
same_or_not a b = ⊎_elim (λ h. inl h.1) (λ h. inr h.1) (eqb_tells a b)

sizes-within : (x : Parcel) (got : List Parcel) (seat n : ℕ) → seat ≤ x.from → x.from < seat + n → sizes (x ∷ got) seat n ≡ suc (sizes got seat n)
sizes-within x got seat zero from below = absurd (omega (arith, from, below))
sizes-within x got seat (suc n) from below =
    ⊎_elim
    (λ (here : seat ≡ x.from).
    omega (arith, ap (λ (es : List Envelope). length es) (of_here seat x got here), sizes-below x got (seat + 1) n (omega (arith, here))))
    (λ (other : seat ≢ x.from).
    let past : seat + 1 ≤ x.from = omega (arith, from, other) in
    omega (arith, ap (λ (es : List Envelope). length es) (of_other seat x got other), sizes-within x got (seat + 1) n past (omega (arith, below))))
    (same_or_not seat x.from)

-- nothing was got of others than these seats
got_by_seats : (got : List Parcel) (n : ℕ) → ((p : ℕ) → n ≤ p → of p got ≡ []) → length got ≡ sizes got 0 n
got_by_seats [] n alone = sym (sizes-none 0 n)
got_by_seats (x ∷ got) n alone =
    let within : x.from < n =
    lt_of_not-le (λ le. let none : x.envelope ∷ of x.from got ≡ [] = sym (of_here x.from x got refl) ∙ alone x.from le in absurd (cc)) in
    let rest = got_by_seats got n (λ p le. sym (of_other p x got (λ e. omega (arith, e, le, within))) ∙ alone p le) in
    omega (arith, rest, sizes-within x got 0 n (omega arith) (omega (arith, within)))

endorsed_got : (got : List Parcel) (seat : ℕ) (seats : List (List Outcome)) → AreGot got seat seats → (total_of seats).endorsed ≡ sizes got seat (length seats)
endorsed_got got seat [] all = refl
endorsed_got got seat (outcomes ∷ others) all =
    omega (arith, endorsed_in outcomes, ap (λ (es : List Envelope). length es) all.0, endorsed_got got (seat + 1) others all.1)

-- as many were endorsed as were got
pub as_many : (got : List Parcel) (seats : List (List Outcome)) → AreGot got 0 seats → ((p : ℕ) → length seats ≤ p → of p got ≡ []) →
    (total_of seats).endorsed ≡ length got
as_many got seats all alone = endorsed_got got 0 seats all ∙ sym (got_by_seats got (length seats) alone)
