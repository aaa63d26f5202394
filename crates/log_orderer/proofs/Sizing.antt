-- A batch has as many envelopes as its report tells, and one alone loses none.
use Rattle.std.proofs.Common.{inl, ◌≡◌, ◌≢◌, ℕ, zero, suc, ◌+◌, ◌<◌, ◌≤◌, ◌&&◌, ◌||◌, not, Bool, true, false, cond, eqb, ltb, List, [], ◌∷◌, ◌++◌, length}
use Rattle.std.proofs.Common.{set, replicate, refl, sym, ap, subst, ◌∙◌, arith}
use Rattle.std.specs.Prelude.{if◌then◌else◌}
use Rattle.std.specs.List.{count_by, range_with_len, slice_get, sum_by}
use Rattle.std.specs.Option.{option_to_list}
use Rattle.std.proofs.Common.{get_or-set_other}
use Rattle.std.proofs.lemmas.Bool.{eq-eqb, eqb-true, eqb-false, ltb-true, ltb-false, lt-ltb, le-ltb}
use Rattle.std.proofs.lemmas.Grind.{flat_map-append}
use Rattle.std.proofs.lemmas.List.{append-nil, get_or-replicate, length-append}
use Rattle.std.proofs.lemmas.List.Sums.{sum_by-append, sum_by-cons}
use Rattle.std.proofs.lemmas.Option.{slice_get_past, slice_get-get_or}
use Rattle.fab_types.specs.declared.block.Block.{Block}
use Rattle.fab_types.specs.declared.envelope.Envelope.{Envelope}
use Rattle.reorder.specs.Edges.{apart, edge_of}
use Rattle.reorder.specs.Plan.{IsIn, IsPlanned, all_but, waits, without}
use Rattle.reorder.specs.Stale.{is_stale, stale}
use Rattle.reorder.proofs.Plans.{part_within, picked, planned_once, planned_whole}
use Rattle.orderer.specs.Arranged.{IsArranged, abort_at, aborts, has_place, arranges_by}
use Rattle.orderer.specs.Blocks.{Adds}
use Rattle.orderer.specs.Places.{envelopes_at}
use Rattle.orderer.specs.declared.arrangement.AbortCause.{AbortCause}
use Rattle.orderer.specs.declared.arrangement.AbortCause.TheVariants.{Outdated, Conflict}
use Rattle.orderer.specs.declared.report.BatchReport.{BatchReport}
use Rattle.orderer.proofs.Cutting.{all_joined}
use Rattle.orderer.proofs.Picking.{all_picked, range_more}
use Rattle.log_orderer.specs.Cutting.{ArePlacesBelow, size_of}

-- 1 where the test holds
abbrev one_if : Bool → ℕ
one_if test = cond test 1 0

-- how many of these are below a number
abbrev below : ℕ → List ℕ → ℕ
below n places = sum_by (λ place. one_if (ltb place n)) places

-- how often a place stands there
abbrev times : ℕ → List ℕ → ℕ
times place places = count_by (λ other. eqb other place) places

-- ---- places below a number

one_below : (place n : ℕ) (less same : Bool) → ltb place n ≡ less → eqb place n ≡ same → one_if (ltb place (suc n)) ≡ one_if less + one_if same
one_below place n true true lt eq = absurd (omega (arith, ltb-true place n lt, eqb-true place n eq))
one_below place n true false lt eq = ap one_if (lt-ltb place (suc n) (omega (arith, ltb-true place n lt)))
one_below place n false true lt eq = ap one_if (lt-ltb place (suc n) (omega (arith, eqb-true place n eq)))
one_below place n false false lt eq =
    let past = ltb-false place n lt in
    let other = eqb-false place n eq in
    ap one_if (le-ltb place (suc n) (omega (arith, past, other)))

-- one number more
below_more : (n : ℕ) (places : List ℕ) → below (suc n) places ≡ below n places + times n places
below_more n [] = refl
below_more n (place ∷ places) =
    omega (
      arith,
      sum_by-cons (λ x. one_if (ltb x (suc n))) place places,
      sum_by-cons (λ x. one_if (ltb x n)) place places,
      sum_by-cons (λ x. one_if (eqb x n)) place places,
      one_below place n (ltb place n) (eqb place n) refl refl,
      below_more n places,
    )

below_none : (places : List ℕ) → below 0 places ≡ 0
below_none [] = refl
below_none (place ∷ places) = omega (arith, sum_by-cons (λ x. one_if (ltb x 0)) place places, ap one_if (le-ltb place 0 (omega arith)), below_none places)

found : (batch : List Envelope) (place : ℕ) (less : Bool) → ltb place (length batch) ≡ less →
    length (option_to_list (slice_get batch place)) ≡ one_if (ltb place (length batch))
found [] place true lt = absurd (omega (arith, ltb-true place 0 lt))
found (e ∷ es) place true lt =
    ap (λ o. length (option_to_list o)) (slice_get-get_or (e ∷ es) place e (ltb-true place (length (e ∷ es)) lt)) ∙ sym (ap one_if lt)
found batch place false lt =
    ap (λ o. length (option_to_list o)) (slice_get_past batch place (ltb-false place (length batch) lt)) ∙ sym (ap one_if lt)

-- as many envelopes as places are the batch's
picked_counted : (batch : List Envelope) (order : List ℕ) → length (envelopes_at batch order) ≡ below (length batch) order
picked_counted batch [] = refl
picked_counted batch (place ∷ order) =
    omega (
      arith,
      length-append (option_to_list (slice_get batch place)) (envelopes_at batch order),
      found batch place (ltb place (length batch)) refl,
      sum_by-cons (λ x. one_if (ltb x (length batch))) place order,
      picked_counted batch order,
    )

-- ---- who is picked, and who is gone

some_times : (place : ℕ) (places : List ℕ) → has_place places place ≡ true → 1 ≤ times place places
some_times place [] is = cc
some_times place (first ∷ places) is =
    let split = sum_by-cons (λ x. one_if (eqb x place)) first places in
    elim (eqb first place) as (λ b. eqb first place ≡ b → 1 ≤ times place (first ∷ places)) [
      | true ↦ λ same. omega (arith, split, ap one_if same)
      | false ↦ λ other. let rest : has_place places place ≡ true = rw other at is in omega (arith, split, some_times place places rest)
    ] refl

no_times : (place : ℕ) (places : List ℕ) → has_place places place ≡ false → times place places ≡ 0
no_times place [] is = refl
no_times place (first ∷ places) is =
    let split = sum_by-cons (λ x. one_if (eqb x place)) first places in
    elim (eqb first place) as (λ b. eqb first place ≡ b → times place (first ∷ places) ≡ 0) [
      | true ↦ λ same. let never : true ≡ false = rw same at is in cc
      | false ↦ λ other. let rest : has_place places place ≡ false = rw other at is in omega (arith, split, ap one_if other, no_times place places rest)
    ] refl

set_waits : (left : List Bool) (i k : ℕ) (same : Bool) → eqb i k ≡ same → waits (set left i false) k ≡ (not same && waits left k)
set_waits left i k true eq = subst (λ (x : ℕ). waits (set left i false) x ≡ false) (eqb-true i k eq) (picked left i)
set_waits left i k false eq =
    let other : k ≢ i = λ same. eqb-false i k eq (sym same) in
    get_or-set_other left i k false false other

with_gone : (same among waiting : Bool) → (not among && (not same && waiting)) ≡ (not (same || among) && waiting)
with_gone true true waiting = refl
with_gone true false waiting = refl
with_gone false true waiting = refl
with_gone false false waiting = refl

gone_wait : (gone : List ℕ) (left : List Bool) (k : ℕ) → waits (without gone left) k ≡ (not (has_place gone k) && waits left k)
gone_wait [] left k = refl
gone_wait (i ∷ gone) left k =
    gone_wait gone (set left i false) k
    ∙ ap (λ (b : Bool). not (has_place gone k) && b) (set_waits left i k (eqb i k) refl)
    ∙ with_gone (eqb i k) (has_place gone k) (waits left k)

and_true : (test : Bool) → (test && true) ≡ test
and_true true = refl
and_true false = refl

pub others_wait : (gone : List ℕ) (n k : ℕ) → k < n → waits (all_but gone n) k ≡ not (has_place gone k)
others_wait gone n k within =
    gone_wait gone (replicate n true) k
    ∙ ap (λ (b : Bool). not (has_place gone k) && b) (get_or-replicate n k true false within)
    ∙ and_true (not (has_place gone k))

-- each place is in the order or aborted, and not both
one_each : (outdated order dropped : List ℕ) (place : ℕ) (gone among : Bool) → has_place outdated place ≡ gone → has_place dropped place ≡ among →
    times place order + times place dropped ≡ one_if (not gone) → times place order + length (abort_at outdated dropped place) ≡ 1
one_each outdated order dropped place true among is drop once =
    let aborted : length (abort_at outdated dropped place) ≡ 1 = rw is refl in omega (arith, once, aborted)
one_each outdated order dropped place false true is drop once =
    let aborted : length (abort_at outdated dropped place) ≡ 1 = rw (is, drop) refl in omega (arith, once, aborted, some_times place dropped drop)
one_each outdated order dropped place false false is drop once =
    let aborted : length (abort_at outdated dropped place) ≡ 0 = rw (is, drop) refl in omega (arith, once, aborted, no_times place dropped drop)

aborts_more : (outdated dropped : List ℕ) (n : ℕ) →
    length (aborts outdated dropped (range_with_len 0 (suc n))) ≡ length (aborts outdated dropped (range_with_len 0 n)) + length (abort_at outdated dropped n)
aborts_more outdated dropped n =
    let next : suc n ≡ n + 1 = omega arith in
    let last : 0 + n ≡ n = omega arith in
    let split = flat_map-append (abort_at outdated dropped) (range_with_len 0 n) (n ∷ []) in
    ap (λ m. length (aborts outdated dropped (range_with_len 0 m))) next
    ∙ ap (λ places. length (aborts outdated dropped places)) (range_more 0 n ∙ ap (λ m. range_with_len 0 n ++ m ∷ []) last)
    ∙ ap length split
    ∙ ap (λ last. length (aborts outdated dropped (range_with_len 0 n) ++ last)) (append-nil (abort_at outdated dropped n))
    ∙ length-append (aborts outdated dropped (range_with_len 0 n)) (abort_at outdated dropped n)

counted_to : (batch : List Envelope) (order dropped : List ℕ) (n : ℕ) → n ≤ length batch →
    IsPlanned (length batch) (edge_of batch) (all_but (stale batch) (length batch)) order dropped →
    below n order + length (aborts (stale batch) dropped (range_with_len 0 n)) ≡ n
counted_to batch order dropped zero most planned = omega (arith, below_none order)
counted_to batch order dropped (suc n) most planned =
    let all = length batch in
    let gone = stale batch in
    let once = planned_once all (edge_of batch) (all_but gone all) order dropped planned n in
    let split = sum_by-append (λ x. one_if (eqb x n)) order dropped in
    let part = ap one_if (others_wait gone all n (omega (arith, most))) in
    let each = one_each gone order dropped n (has_place gone n) (has_place dropped n) refl refl (sym split ∙ once ∙ part) in
    omega (arith, below_more n order, aborts_more gone dropped n, each, counted_to batch order dropped n (omega (arith, most)) planned)

-- ---- places

part_below : (gone among : Bool) (place count : ℕ) → place < count →
    ArePlacesBelow count (if gone then (place, Outdated) ∷ [] else if among then (place, Conflict) ∷ [] else [])
part_below true among place count within = (within, tt)
part_below false true place count within = (within, tt)
part_below false false place count within = tt

abort_below : (outdated dropped : List ℕ) (place count : ℕ) → place < count → ArePlacesBelow count (abort_at outdated dropped place)
abort_below outdated dropped place count within = part_below (has_place outdated place) (has_place dropped place) place count within

aborts_below : (outdated dropped : List ℕ) (from n count : ℕ) → from + n ≤ count → ArePlacesBelow count (aborts outdated dropped (range_with_len from n))
aborts_below outdated dropped from zero count most = tt
aborts_below outdated dropped from (suc n) count most =
    all_joined (λ (left : ℕ × AbortCause). left.0 < count) (abort_at outdated dropped from) (aborts outdated dropped (range_with_len (from + 1) n))
    (abort_below outdated dropped from count (omega (arith, most))) (aborts_below outdated dropped (from + 1) n count (omega (arith, most)))

-- ---- what a report tells of its batch

-- a batch of that many, and the places that are left out are among them
abbrev pub IsSized : List Envelope → BatchReport → Type 0
IsSized batch report = (size_of report ≡ length batch) × ArePlacesBelow (length batch) report.aborted

sized : (reorder : Bool) (batch : List Envelope) (order : List ℕ) (report : BatchReport) → arranges_by reorder batch order report.aborted →
    report.count ≡ length (envelopes_at batch order) → IsSized batch report
sized true batch order report arranged count =
    let n = length batch in
    let whole = counted_to batch order arranged.dropped n (omega arith) arranged.planned in (
      omega (arith, whole, count, picked_counted batch order, ap length arranged.aborts_are),
      subst (ArePlacesBelow n) (sym arranged.aborts_are) (aborts_below (stale batch) arranged.dropped 0 n n (omega arith)),
    )
sized false batch order report arranged count = (
  omega (arith, count, ap (λ places. length (envelopes_at batch places)) arranged.0, ap length (all_picked batch), ap length arranged.1),
  subst (ArePlacesBelow (length batch)) (sym arranged.1) tt,
)

pub adds_sized : (reorder : Bool) (old new : List Block) (batch : List Envelope) (report : BatchReport) → Adds (arranges_by reorder) old batch report new →
    IsSized batch report
adds_sized reorder old new batch report adds = sized reorder batch adds.order report adds.arranged adds.count

-- ---- an envelope alone

pub no_loop : (batch : List Envelope) (k : ℕ) → edge_of batch k k ≡ false
unfolding apart
no_loop batch k = rw (eq-eqb k k refl) refl

alone_fresh : (e : Envelope) → stale (e ∷ []) ≡ []
unfolding is_stale apart
alone_fresh e = refl

only_first : (gone : List ℕ) (k : ℕ) → waits (all_but gone 1) k ≡ true → IsIn k (0 ∷ [])
only_first gone k waiting = let less = part_within gone 1 k waiting in inl (omega (arith, less))

alone_planned : (e : Envelope) (order : List ℕ) (aborted : List (ℕ × AbortCause)) → IsArranged (e ∷ []) order aborted → aborted ≡ []
alone_planned e order aborted arranged =
    let gone = stale (e ∷ []) in
    let none = planned_whole 1 (edge_of (e ∷ [])) (all_but gone 1) order arranged.dropped (no_loop (e ∷ [])) arranged.planned (0 ∷ []) (tt, tt)
    (only_first gone) in
    arranged.aborts_are ∙ (λ i. aborts (alone_fresh e i) (none i) (0 ∷ []))

loses_none : (reorder : Bool) (e : Envelope) (order : List ℕ) (aborted : List (ℕ × AbortCause)) → arranges_by reorder (e ∷ []) order aborted → aborted ≡ []
loses_none true e order aborted arranged = alone_planned e order aborted arranged
loses_none false e order aborted arranged = arranged.1

pub alone_loses_none : (reorder : Bool) (old new : List Block) (e : Envelope) (report : BatchReport) → Adds (arranges_by reorder) old (e ∷ []) report new →
    report.aborted ≡ []
alone_loses_none reorder old new e report adds = loses_none reorder e adds.order report.aborted adds.arranged
