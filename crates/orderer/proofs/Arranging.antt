-- A batch has one arrangement, its places are the batch's, and the survivors stand in a legal order.
use Rattle.std.proofs.Common.{◌≡◌, ℕ, zero, suc, ◌+◌, ◌<◌, ◌≤◌, ◌++◌, ◌&&◌, not, Bool, true, false, cond, eqb, ltb, List, [], ◌∷◌, Some, None, length, refl}
use Rattle.std.proofs.Common.{sym, ap, subst, ◌∙◌, arith}
use Rattle.std.specs.Prelude.{if◌then◌else◌}
use Rattle.std.specs.List.{AllByRecursion, filter, count_by, range_with_len, slice_get}
use Rattle.std.specs.Option.{option_to_list}
use Rattle.std.proofs.lemmas.List.Sums.{sum_by-cons, sum_by-append}
use Rattle.std.proofs.lemmas.Bool.{lt-ltb, eq-eqb}
use Rattle.std.proofs.lemmas.Grind.{flat_map-append}
use Rattle.std.proofs.lemmas.List.{append-nil}
use Rattle.fab_types.specs.declared.envelope.Envelope.{Envelope}
use Rattle.fab_types.specs.declared.block.Block.{Block}
use Rattle.fab_types.specs.Touched.{sees_write_of, IsLegal}
use Rattle.reorder.specs.Plan as plan
use Rattle.reorder.specs.Plan.{IsPlanned, AllAfter, all_but, waits}
use Rattle.reorder.specs.Edges.{apart, both_there, edge_of}
use Rattle.reorder.specs.Stale.{indices, is_stale, stale}
use Rattle.reorder.proofs.Plans.{planned_one, planned_once, planned_legal, part_within}
use Rattle.orderer.specs.declared.arrangement.AbortCause.{AbortCause}
use Rattle.orderer.specs.declared.arrangement.AbortCause.TheVariants.{Outdated, Conflict}
use Rattle.orderer.specs.declared.report.BatchReport.{BatchReport}
use Rattle.orderer.specs.Places.{envelopes_at, ArePlaces}
use Rattle.orderer.specs.Arranged.{has_place, abort_at, aborts, IsArranged, arranges_by}
use Rattle.orderer.proofs.Picking.{range_more}
use Rattle.orderer.specs.Blocks.{AddsEach, AreLegal, next_block, with_batch}
use Rattle.orderer.proofs.Cutting.{all_joined}

pub one_arrangement : (reorder : Bool) (batch : List Envelope) (order others : List ℕ) (aborted left : List (ℕ × AbortCause)) →
    arranges_by reorder batch order aborted →
    arranges_by reorder batch others left → (order ≡ others) × (aborted ≡ left)
one_arrangement true batch order others aborted left a b =
    let same = planned_one (length batch) (edge_of batch) (all_but (stale batch) (length batch)) order others a.dropped b.dropped a.planned b.planned in
    (same.0, a.aborts_are ∙ ap (λ (d : List ℕ). aborts (stale batch) d (indices batch)) same.1 ∙ sym b.aborts_are)
one_arrangement false batch order others aborted left a b = (a.0 ∙ sym b.0, a.1 ∙ sym b.1)

-- ---- places

part_fits : (n place : ℕ) (takes : Bool) → (takes ≡ true → place < n) → cond {A = ℕ} takes 1 0 ≤ (if ltb place n then 1 else 0)
part_fits n place true inside = subst (λ (b : Bool). 1 ≤ (if b then 1 else 0)) (sym (lt-ltb place n (inside refl))) (omega arith)
part_fits n place false inside = omega arith

less_of : (whole one rest most : ℕ) → whole ≡ one + rest → whole ≤ most → one ≤ most
less_of whole one rest most split le = omega (arith, split, le)

pub planned_places : (n : ℕ) (edge : ℕ → ℕ → Bool) (gone order dropped : List ℕ) → IsPlanned n edge (all_but gone n) order dropped → ArePlaces n order
planned_places n edge gone order dropped p place =
    let once = planned_once n edge (all_but gone n) order dropped p place in
    let split = sum_by-append (λ y. cond {A = ℕ} (eqb y place) 1 0) order dropped in
    let fits = part_fits n place (waits (all_but gone n) place) (part_within gone n place) in
    less_of (count_by (λ x. eqb x place) (order ++ dropped)) (count_by (λ x. eqb x place) order) (count_by (λ x. eqb x place) dropped)
    (if ltb place n then 1 else 0) split
    (subst (λ (m : ℕ). m ≤ (if ltb place n then 1 else 0)) (sym once) fits)

-- ---- stale ones are of the batch

kept_all : {A : Type 0} (P : A → Type 0) (test : A → Bool) (xs : List A) → AllByRecursion P xs → AllByRecursion P (filter test xs)
kept_all P test [] h = tt
kept_all P test (x ∷ xs) h =
    let rest = kept_all P test xs h.1 in
    elim (test x) as (λ b. AllByRecursion P (cond b (x ∷ filter test xs) (filter test xs))) [ true ↦ (h.0, rest) | false ↦ rest ]

all_below : (k n most : ℕ) → k + n ≤ most → AllByRecursion (λ i. i < most) (range_with_len k n)
all_below k zero most h = tt
all_below k (suc n) most h = (omega (arith, h), all_below (k + 1) n most (omega (arith, h)))

pub stale_inside : (batch : List Envelope) → AllByRecursion (λ i. i < length batch) (stale batch)
stale_inside batch = kept_all (λ i. i < length batch) (is_stale batch) (indices batch) (all_below 0 (length batch) (length batch) (omega arith))

-- ---- a legal order of places is one of envelopes

-- none of these sees a write of it
abbrev IsUnseen : Envelope → List Envelope → Type 0
IsUnseen e es = AllByRecursion (λ d. sees_write_of d.payload e.payload ≡ false) es

-- of each, none after it sees a write
abbrev EachUnseen : List Envelope → Type 0
EachUnseen [] = Unit {0}
EachUnseen (e ∷ es) = IsUnseen e es × EachUnseen es

push_one : {A : Type 0} (P : A → Type 0) (xs : List A) (x : A) → AllByRecursion P xs → P x → AllByRecursion P (xs ++ x ∷ [])
push_one P xs x h p = all_joined P xs (x ∷ []) h (p, tt)

heads : (earlier : List Envelope) (e : Envelope) (es : List Envelope) → AllByRecursion (λ d. IsUnseen d (e ∷ es)) earlier →
    AllByRecursion (λ d. sees_write_of e.payload d.payload ≡ false) earlier
heads [] e es h = tt
heads (d ∷ earlier) e es h = (h.0.0, heads earlier e es h.1)

tails : (earlier : List Envelope) (e : Envelope) (es : List Envelope) → AllByRecursion (λ d. IsUnseen d (e ∷ es)) earlier →
    AllByRecursion (λ d. IsUnseen d es) earlier
tails [] e es h = tt
tails (d ∷ earlier) e es h = (h.0.1, tails earlier e es h.1)

legal_of : (earlier es : List Envelope) → AllByRecursion (λ d. IsUnseen d es) earlier → EachUnseen es → IsLegal earlier es
legal_of earlier [] before after = tt
legal_of earlier (e ∷ es) before after =
    (heads earlier e es before, legal_of (earlier ++ e ∷ []) es (push_one (λ d. IsUnseen d es) earlier e (tails earlier e es before) after.0) after.1)

not_and : (same there : Bool) → same ≡ false → (not same && there) ≡ false → there ≡ false
not_and same there other e = subst (λ (b : Bool). (not b && there) ≡ false) other e

no_edge : (batch : List Envelope) (j i : ℕ) (d e : Envelope) → slice_get batch j ≡ Some d → slice_get batch i ≡ Some e → eqb j i ≡ false →
    edge_of batch j i ≡ false → sees_write_of d.payload e.payload ≡ false
unfolding apart
no_edge batch j i d e at_j at_i other none =
    let whole : (not (eqb j i) && both_there sees_write_of (slice_get batch j) (slice_get batch i)) ≡ false = none in
    (λ k. both_there sees_write_of (sym at_j k) (sym at_i k)) ∙ not_and (eqb j i) (both_there sees_write_of (slice_get batch j) (slice_get batch i)) other whole

none_same : (i j : ℕ) (js : List ℕ) → count_by (λ x. eqb x i) (j ∷ js) ≡ 0 → (eqb j i ≡ false) × (count_by (λ x. eqb x i) js ≡ 0)
none_same i j js none =
    let split = sum_by-cons (λ y. cond {A = ℕ} (eqb y i) 1 0) j js in
    elim (eqb j i) as (λ b. eqb j i ≡ b → (b ≡ false) × (count_by (λ x. eqb x i) js ≡ 0)) [
      | true ↦ λ is. let one : cond {A = ℕ} (eqb j i) 1 0 ≡ 1 = ap (λ (b : Bool). cond {A = ℕ} b 1 0) is in absurd omega (arith, none, split, one)
      | false ↦ λ is. (refl, omega (arith, none, split))
    ] refl

later_unseen : (batch : List Envelope) (i : ℕ) (e : Envelope) (js : List ℕ) → slice_get batch i ≡ Some e → count_by (λ x. eqb x i) js ≡ 0 →
    AllAfter (edge_of batch) i js → IsUnseen e (envelopes_at batch js)
later_unseen batch i e [] at none after = tt
later_unseen batch i e (j ∷ js) at none after =
    let apart = none_same i j js none in
    let rest = later_unseen batch i e js at apart.1 after.1 in
    elim (slice_get batch j) as (λ o. slice_get batch j ≡ o → IsUnseen e (option_to_list o ++ envelopes_at batch js)) [
      | None ↦ λ is. rest
      | Some d ↦ λ is. (no_edge batch j i d e is at apart.0 after.0, rest)
    ] refl

none_again : (i : ℕ) (is : List ℕ) → ((place : ℕ) → count_by (λ x. eqb x place) (i ∷ is) ≤ 1) → count_by (λ x. eqb x i) is ≡ 0
none_again i is once =
    let here : cond {A = ℕ} (eqb i i) 1 0 ≡ 1 = ap (λ (b : Bool). cond {A = ℕ} b 1 0) (eq-eqb i i refl) in
    omega (arith, once i, sum_by-cons (λ y. cond {A = ℕ} (eqb y i) 1 0) i is, here)

once_less : (i : ℕ) (is : List ℕ) → ((place : ℕ) → count_by (λ x. eqb x place) (i ∷ is) ≤ 1) → (place : ℕ) → count_by (λ x. eqb x place) is ≤ 1
once_less i is once place = omega (arith, once place, sum_by-cons (λ y. cond {A = ℕ} (eqb y place) 1 0) i is)

picked_unseen : (batch : List Envelope) (order : List ℕ) → ((place : ℕ) → count_by (λ x. eqb x place) order ≤ 1) → plan.IsLegal (edge_of batch) order →
    EachUnseen (envelopes_at batch order)
picked_unseen batch [] once legal = tt
picked_unseen batch (i ∷ is) once legal =
    let rest = picked_unseen batch is (once_less i is once) legal.1 in
    elim (slice_get batch i) as (λ o. slice_get batch i ≡ o → EachUnseen (option_to_list o ++ envelopes_at batch is)) [
      | None ↦ λ at. rest
      | Some e ↦ λ at. (later_unseen batch i e is at (none_again i is once) legal.0, rest)
    ] refl

at_most_one : (test : Bool) (count : ℕ) → count ≤ (if test then 1 else 0) → count ≤ 1
at_most_one true count most = most
at_most_one false count most = omega (arith, most)

-- the survivors of an arranged batch stand in a legal order
pub arranged_legal : (batch : List Envelope) (order : List ℕ) (aborted : List (ℕ × AbortCause)) → IsArranged batch order aborted →
    IsLegal [] (envelopes_at batch order)
arranged_legal batch order aborted a =
    let n = length batch in
    let left = all_but (stale batch) n in
    let places = planned_places n (edge_of batch) (stale batch) order a.dropped a.planned in
    let once = λ (place : ℕ). at_most_one (ltb place n) (count_by (λ x. eqb x place) order) (places place) in
    legal_of [] (envelopes_at batch order) tt (picked_unseen batch order once (planned_legal n (edge_of batch) left order a.dropped a.planned))

with_batch_legal : (old : List Block) (es : List Envelope) → AreLegal old → IsLegal [] es → AreLegal (with_batch old es)
with_batch_legal old [] are legal = are
with_batch_legal old (e ∷ es) are legal = push_one (λ (b : Block). IsLegal [] b.envelopes) old (next_block old (e ∷ es)) are legal

-- blocks of arranged batches are of legal order
pub takes_legal : (old : List Block) (batches : List (List Envelope)) (reports : List BatchReport) (new : List Block) →
    AddsEach (arranges_by true) old batches reports new → AreLegal old → AreLegal new
takes_legal old [] reports new adds are = subst AreLegal (sym adds.1) are
takes_legal old (batch ∷ batches) reports new adds are =
    let a = adds.4 in
    let next : AreLegal adds.2 =
    subst AreLegal (sym a.chain) (with_batch_legal old (envelopes_at batch a.order) are (arranged_legal batch a.order adds.0.aborted a.arranged)) in
    takes_legal adds.2 batches adds.1 new adds.5 next

-- ---- why each is aborted

aborts_more : (outdated dropped : List ℕ) (n : ℕ) →
    aborts outdated dropped (range_with_len 0 (n + 1)) ≡ aborts outdated dropped (range_with_len 0 n) ++ abort_at outdated dropped n
aborts_more outdated dropped n =
    let last : 0 + n ≡ n = omega arith in
    ap (aborts outdated dropped) (range_more 0 n ∙ ap (λ m. range_with_len 0 n ++ m ∷ []) last)
    ∙ flat_map-append (abort_at outdated dropped) (range_with_len 0 n) (n ∷ [])
    ∙ ap (λ (xs : List (ℕ × AbortCause)). aborts outdated dropped (range_with_len 0 n) ++ xs) (append-nil (abort_at outdated dropped n))

pub outdated_more : (outdated dropped : List ℕ) (n : ℕ) → has_place outdated n ≡ true →
    aborts outdated dropped (range_with_len 0 (n + 1)) ≡ aborts outdated dropped (range_with_len 0 n) ++ (n, Outdated) ∷ []
outdated_more outdated dropped n is =
    aborts_more outdated dropped n
    ∙ ap (λ (b : Bool). aborts outdated dropped (range_with_len 0 n) ++
    (if b then (n, Outdated) ∷ [] else if has_place dropped n then (n, Conflict) ∷ [] else [])) is

pub dropped_more : (outdated dropped : List ℕ) (n : ℕ) → has_place outdated n ≡ false → has_place dropped n ≡ true →
    aborts outdated dropped (range_with_len 0 (n + 1)) ≡ aborts outdated dropped (range_with_len 0 n) ++ (n, Conflict) ∷ []
dropped_more outdated dropped n other is =
    aborts_more outdated dropped n
    ∙ (λ i. aborts outdated dropped (range_with_len 0 n) ++ (if other i then (n, Outdated) ∷ [] else if is i then (n, Conflict) ∷ [] else []))

pub none_more : (outdated dropped : List ℕ) (n : ℕ) → has_place outdated n ≡ false → has_place dropped n ≡ false →
    aborts outdated dropped (range_with_len 0 (n + 1)) ≡ aborts outdated dropped (range_with_len 0 n)
none_more outdated dropped n other is =
    aborts_more outdated dropped n
    ∙ (λ i. aborts outdated dropped (range_with_len 0 n) ++ (if other i then (n, Outdated) ∷ [] else if is i then (n, Conflict) ∷ [] else []))
    ∙ append-nil (aborts outdated dropped (range_with_len 0 n))
