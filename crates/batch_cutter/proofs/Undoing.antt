-- An offer or a timeout can be taken back: what it cut and left tells what there was before.
use Rattle.std.proofs.Common.{◌≡◌, ℕ, ◌+◌, ◌<◌, ◌≤◌, List, [], ◌∷◌, ◌++◌, length, map, refl, sym, ap, ◌∙◌, subst, inl, inr, arith, length-append}
use Rattle.std.specs.List.{sum_by}
use Rattle.std.proofs.lemmas.Bool.{cases_lt}
use Rattle.std.proofs.lemmas.List.Sums.{sum_by-cons, sum_by-append}
use Rattle.batch_cutter.specs.Division.{Limits, Mark, State, message, timeout, IsBatch, IsPending, IsDivision}
use Rattle.batch_cutter.specs.Offers.{batches, Offers, Times}
use Rattle.batch_cutter.specs.declared.cut.Cut.{Cut}
use Rattle.batch_cutter.proofs.Divisions.{IsBatch-filled, IsDivision-one, not_empty, large_alone, large_after, cut_before, kept, filled, timeout_cuts}

-- what one offer can have done
data Shape {M : Type 0} (old : List M) (given : M) (cut : List (List M)) (rest : List M) : Type 0 where
  was_kept : cut ≡ [] → rest ≡ old ++ given ∷ [] → Shape old given cut rest
  was_filled : cut ≡ (old ++ given ∷ []) ∷ [] → rest ≡ [] → Shape old given cut rest
  was_cut : cut ≡ old ∷ [] → rest ≡ given ∷ [] → Shape old given cut rest
  was_both : cut ≡ old ∷ (given ∷ []) ∷ [] → rest ≡ [] → Shape old given cut rest

shape_large : {M : Type 0} (weight : M → ℕ) (limits : Limits) (old : List M) (given : M) (cut : List (List M)) (rest : List M) → IsPending weight limits old →
    IsDivision weight limits (map message old ++ message given ∷ []) cut rest → limits.preferred < weight given → Shape old given cut rest
shape_large weight limits [] given cut rest p d s =
    let counted = p.counted in
    let r = IsDivision-one weight limits (message given ∷ []) cut ((given ∷ []) ∷ []) rest [] d (large_alone weight limits given (omega arith) s) in
    was_filled r.0 r.1
shape_large weight limits (x ∷ xs) given cut rest p d s =
    let r = IsDivision-one weight limits (map message (x ∷ xs) ++ message given ∷ []) cut ((x ∷ xs) ∷ (given ∷ []) ∷ []) rest [] d
    (large_after weight limits (x ∷ xs) given p (omega arith) s) in
    was_both r.0 r.1

shape_small : {M : Type 0} (weight : M → ℕ) (limits : Limits) (old : List M) (given : M) (cut : List (List M)) (rest : List M) → IsPending weight limits old →
    IsDivision weight limits (map message old ++ message given ∷ []) cut rest → weight given ≤ limits.preferred → Shape old given cut rest
shape_small {M} weight limits old given cut rest p d small =
    let counted = p.counted in
    let together = p.together in
    let len = length-append old (given ∷ []) in
    let sum = sum_by-append weight old (given ∷ []) in
    let one = sum_by-cons weight given [] in
    let marks : List (Mark M) = map message old ++ message given ∷ [] in
    elim (cases_lt limits.preferred (sum_by weight old + weight given)) as (λ _. Shape old given cut rest) [
      | inl s ↦
          let r = IsDivision-one weight limits marks cut (old ∷ []) rest (given ∷ []) d
          (cut_before weight limits old given p (not_empty weight limits old given small s) small s) in
          was_cut r.0 r.1
      | inr s ↦
          elim (cases_lt (length old + 1) limits.count) as (λ _. Shape old given cut rest) [
            | inl c ↦
                let r = IsDivision-one weight limits marks cut [] rest (old ++ given ∷ []) d
                (kept weight limits old given record { counted = omega arith; together = omega arith }) in
                was_kept r.0 r.1
            | inr c ↦
                let r = IsDivision-one weight limits marks cut ((old ++ given ∷ []) ∷ []) rest [] d (filled weight limits old given (omega arith) s) in
                was_filled r.0 r.1
          ]
    ]

shape_of : {M : Type 0} (weight : M → ℕ) (old : State M) (given : M) (cut : Cut M) (new : State M) → Offers weight old given cut new →
    Shape old.pending given (batches cut) new.pending
shape_of weight old given cut new o =
    elim (cases_lt old.limits.preferred (weight given)) as (λ _. Shape old.pending given (batches cut) new.pending) [
      | inl s ↦ shape_large weight old.limits old.pending given (batches cut) new.pending o.waited o.divides s
      | inr s ↦ shape_small weight old.limits old.pending given (batches cut) new.pending o.waited o.divides s
    ]

push_same : {M : Type 0} (xs ys : List M) (x y : M) → xs ++ x ∷ [] ≡ ys ++ y ∷ [] → (xs ≡ ys) × (x ≡ y)
push_same [] [] x y e = (refl, cc)
push_same [] (b ∷ ys) x y e = let n = ap length e in absurd (omega (arith, length-append ys (y ∷ [])))
push_same (a ∷ xs) [] x y e = let n = ap length e in absurd (omega (arith, length-append xs (x ∷ [])))
push_same (a ∷ xs) (b ∷ ys) x y e =
    let head : a ≡ b = cc in
    let tail : xs ++ x ∷ [] ≡ ys ++ y ∷ [] = cc in
    let r = push_same xs ys x y tail in
    let whole : a ∷ xs ≡ b ∷ ys = cc (head, r.0) in
    (whole, r.1)

State-same : {M : Type 0} (x y : State M) → x.limits ≡ y.limits → x.pending ≡ y.pending → x ≡ y
State-same {M} x y e f =
    let along : record { limits = x.limits; pending = x.pending } ≡ y =
    ap (λ (l : Limits). let s : State M = record { limits = l; pending = x.pending } in s) e ∙
    ap (λ (p : List M). let s : State M = record { limits = y.limits; pending = p } in s) f in
    along

-- nothing was cut: the message waits last
pub nothing_waits : {M : Type 0} (weight : M → ℕ) (old : State M) (given : M) (cut : Cut M) (new : State M) → Offers weight old given cut new →
    batches cut ≡ [] → new.pending ≡ old.pending ++ given ∷ []
nothing_waits weight old given cut new o e =
    elim (shape_of weight old given cut new o) as (λ _. new.pending ≡ old.pending ++ given ∷ []) [
      | was_kept c r ↦ r
      | was_filled c r ↦ absurd (cc)
      | was_cut c r ↦ absurd (cc)
      | was_both c r ↦ absurd (cc)
    ]

-- one batch was cut and nothing waits: the message is its last
pub one_ends : {M : Type 0} (weight : M → ℕ) (old : State M) (given : M) (cut : Cut M) (new : State M) (batch : List M) → Offers weight old given cut new →
    batches cut ≡ batch ∷ [] → new.pending ≡ [] → batch ≡ old.pending ++ given ∷ []
one_ends weight old given cut new batch o e n =
    elim (shape_of weight old given cut new o) as (λ _. batch ≡ old.pending ++ given ∷ []) [
      | was_kept c r ↦ absurd (cc)
      | was_filled c r ↦ cc
      | was_cut c r ↦ absurd (cc)
      | was_both c r ↦ absurd (cc)
    ]

-- one batch was cut and something waits: that is the message
pub one_before : {M : Type 0} (weight : M → ℕ) (old : State M) (given : M) (cut : Cut M) (new : State M) (batch : List M) → Offers weight old given cut new →
    batches cut ≡ batch ∷ [] → 0 < length new.pending → (batch ≡ old.pending) × (new.pending ≡ given ∷ [])
one_before weight old given cut new batch o e n =
    elim (shape_of weight old given cut new o) as (λ _. (batch ≡ old.pending) × (new.pending ≡ given ∷ [])) [
      | was_kept c r ↦ absurd (cc)
      | was_filled c r ↦ let none = ap length r in absurd (omega arith)
      | was_cut c r ↦ let same : batch ≡ old.pending = cc in (same, r)
      | was_both c r ↦ absurd (cc)
    ]

-- two batches were cut: the message is the second
pub two_alone : {M : Type 0} (weight : M → ℕ) (old : State M) (given : M) (cut : Cut M) (new : State M) (first second : List M) →
    Offers weight old given cut new → batches cut ≡ first ∷ second ∷ [] → (first ≡ old.pending) × (second ≡ given ∷ []) × (new.pending ≡ [])
two_alone weight old given cut new first second o e =
    elim (shape_of weight old given cut new o) as (λ _. (first ≡ old.pending) × (second ≡ given ∷ []) × (new.pending ≡ [])) [
      | was_kept c r ↦ absurd (cc)
      | was_filled c r ↦ absurd (cc)
      | was_cut c r ↦ absurd (cc)
      | was_both c r ↦
          let same : first ≡ old.pending = cc in
          let alone : second ≡ given ∷ [] = cc in
          (same, alone, r)
    ]

-- a message taken off the end of the messages that waited before
pub taken_off : {M : Type 0} (old new : State M) (given last : M) (rest : List M) → old.pending ++ given ∷ [] ≡ rest ++ last ∷ [] → new.pending ≡ rest →
    new.limits ≡ old.limits → (new ≡ old) × (last ≡ given)
taken_off old new given last rest e f l =
    let p = push_same old.pending rest given last e in
    (State-same new old l (f ∙ sym p.0), sym p.1)

-- the one message taken off
pub taken_alone : {M : Type 0} (old new : State M) (given last : M) (rest : List M) → given ∷ [] ≡ rest ++ last ∷ [] → new.pending ≡ old.pending →
    new.limits ≡ old.limits → (new ≡ old) × (last ≡ given)
taken_alone old new given last rest e f l =
    let p = push_same [] rest given last e in
    (State-same new old l f, sym p.1)

pub nothing_left : {M : Type 0} (rest : List M) (given last : M) → given ∷ [] ≡ rest ++ last ∷ [] → rest ≡ []
nothing_left rest given last e = sym (push_same [] rest given last e).0

pub still_pending : {M : Type 0} (weight : M → ℕ) (old new : Limits) (pending rest : List M) → IsPending weight old pending → new ≡ old → rest ≡ pending →
    IsPending weight new rest
still_pending {M} weight old new pending rest p e f =
    subst (λ (l : Limits). IsPending weight l rest) (sym e) (subst (λ (a : List M). IsPending weight old a) (sym f) p)

no_messages : {M : Type 0} (weight : M → ℕ) (limits : Limits) (batch : List M) (after : List (Mark M)) → IsBatch weight limits batch after →
    [] ≡ map message batch ++ after → ⊥
no_messages weight limits [] after h e = omega (arith, IsBatch-filled weight limits [] after h)
no_messages weight limits (m ∷ ms) after h e = cc

time_cuts_all : {M : Type 0} (weight : M → ℕ) (limits : Limits) (old rest batch : List M) → IsPending weight limits old →
    IsDivision weight limits (map message old ++ timeout ∷ []) (batch ∷ []) rest → (batch ≡ old) × (rest ≡ [])
time_cuts_all weight limits [] rest batch p d =
    let counted = p.counted in
    let none : [] ≡ map message batch ++ d.0 = d.1 in
    absurd (no_messages weight limits batch d.0 d.2 none)
time_cuts_all weight limits (x ∷ xs) rest batch p d =
    let r = IsDivision-one weight limits (map message (x ∷ xs) ++ timeout ∷ []) (batch ∷ []) ((x ∷ xs) ∷ []) rest [] d
    (timeout_cuts weight limits (x ∷ xs) p (omega arith)) in
    let same : batch ≡ x ∷ xs = cc (r.0) in
    (same, r.1)

-- a timeout cuts what waited
pub time_cuts : {M : Type 0} (weight : M → ℕ) (old : State M) (new : State M) (batch : List M) → Times weight old (batch ∷ []) new →
    (batch ≡ old.pending) × (new.pending ≡ [])
time_cuts weight old new batch t = time_cuts_all weight old.limits old.pending new.pending batch t.waited t.divides

pub time_back : {M : Type 0} (weight : M → ℕ) (old now new : State M) (batch : List M) → Times weight old (batch ∷ []) now → new.pending ≡ batch →
    new.limits ≡ now.limits → new ≡ old
time_back weight old now new batch t f l =
    State-same new old (l ∙ t.limits) (f ∙ (time_cuts weight old now batch t).0)

pub nil_of_length : {M : Type 0} {xs : List M} → length xs ≡ 0 → xs ≡ []
nil_of_length {xs = []} e = refl
nil_of_length {xs = x ∷ xs} e = absurd (omega arith)
