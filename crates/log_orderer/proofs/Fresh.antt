-- The survivors of a batch are none of them stale among themselves, and their plan is the order in which they stand.
use Rattle.std.proofs.Common.{inl, inr, ◌≡◌, ◌≢◌, ◌≤◌, ◌<◌, ◌+◌, ◌&&◌, ◌||◌, not, ℕ, zero, suc, Bool, true, false, cond, eqb, List, [], ◌∷◌, length, Some, None}
use Rattle.std.proofs.Common.{get_or-set_other, map, replicate, set, ◌++◌, refl, sym, ap, subst, ◌∙◌, arith}
use Rattle.std.specs.List.{AllByRecursion, count_by, filter, list_any, range_with_len, slice_get}
use Rattle.std.specs.Option.{option_to_list}
use Rattle.std.proofs.lemmas.Bool.{cases_lt, eq-eqb, eqb-true, eqb-false}
use Rattle.std.proofs.lemmas.List.{get_or-replicate, get_or_past, length-replicate, length-set}
use Rattle.std.proofs.lemmas.List.Sums.{sum_by-cons}
use Rattle.fab_types.specs.Payloads.{Payload}
use Rattle.fab_types.specs.Touched.{read_older_than, sees_write_of}
use Rattle.fab_types.specs.declared.envelope.Envelope.{Envelope}
use Rattle.reorder.specs.Edges.{apart, both_there, edge_of}
use Rattle.reorder.specs.Plan as plan
use Rattle.reorder.specs.Plan.{AllAfter, IsFree, IsPlan, IsPlanned, aborts_of, all_but, order_of, waits}
use Rattle.reorder.specs.Stale.{indices, is_stale, stale}
use Rattle.reorder.specs.declared.pick.Pick.{Pick}
use Rattle.reorder.specs.declared.pick.Pick.TheVariants.{Place, Abort}
use Rattle.reorder.proofs.Plans.{others_wait as others_still, part_within, picked, planned_legal}
use Rattle.orderer.specs.Arranged.{aborts, has_place}
use Rattle.orderer.specs.Places.{envelopes_at}
use Rattle.log_orderer.proofs.Sizing.{no_loop, others_wait}

-- ---- tests

or_none : (a b : Bool) → (a || b) ≡ false → (a ≡ false) × (b ≡ false)
or_none true b h = absurd cc
or_none false b h = (refl, h)

not_and : (same there : Bool) → same ≡ false → (not same && there) ≡ false → there ≡ false
not_and same there other e = subst (λ (b : Bool). (not b && there) ≡ false) other e

any_none : {A : Type 0} (test : A → Bool) → ((x : A) → test x ≡ false) → (xs : List A) → list_any test xs ≡ false
any_none test none [] = refl
any_none test none (x ∷ xs) = rw (none x) (any_none test none xs)

-- where none of a range passes, nor does the one at a place
range_none : (test : ℕ → Bool) (a n k : ℕ) → list_any test (range_with_len a n) ≡ false → k < n → test (a + k) ≡ false
range_none test a zero k none less = absurd (omega (arith, less))
range_none test a (suc n) zero none less =
    let here : a + 0 ≡ a = omega arith in
    rw here (or_none (test a) (list_any test (range_with_len (a + 1) n)) none).0
range_none test a (suc n) (suc k) none less =
    let there : a + suc k ≡ (a + 1) + k = omega arith in
    rw there (range_none test (a + 1) n k (or_none (test a) (list_any test (range_with_len (a + 1) n)) none).1 (omega (arith, less)))

-- where one is not among those of a range that pass, it does not pass
not_kept : (test : ℕ → Bool) (a n k : ℕ) → has_place (filter test (range_with_len a n)) (a + k) ≡ false → k < n → test (a + k) ≡ false
not_kept test a zero k none less = absurd (omega (arith, less))
not_kept test a (suc n) zero none less =
    let here : a + 0 ≡ a = omega arith in
    elim (test a) as (λ b. test a ≡ b → test (a + 0) ≡ false) [
      | true ↦ λ is.
          let split = or_none (eqb a (a + 0)) (has_place (filter test (range_with_len (a + 1) n)) (a + 0)) (rw is at none) in
          absurd (eqb-false a (a + 0) split.0 (sym here))
      | false ↦ λ is. rw here is
    ] refl
not_kept test a (suc n) (suc k) none less =
    let there : a + suc k ≡ (a + 1) + k = omega arith in
    let rest : has_place (filter test (range_with_len (a + 1) n)) (a + suc k) ≡ false =
    elim (test a) as (λ b. test a ≡ b → has_place (filter test (range_with_len (a + 1) n)) (a + suc k) ≡ false) [
      | true ↦ λ is. (or_none (eqb a (a + suc k)) (has_place (filter test (range_with_len (a + 1) n)) (a + suc k)) (rw is at none)).1
      | false ↦ λ is. rw is at none
    ] refl
    in
    rw there (not_kept test (a + 1) n k (subst (λ (m : ℕ). has_place (filter test (range_with_len (a + 1) n)) m ≡ false) there rest) (omega (arith, less)))

-- where a range begins at 0, its places are those below its length
none_below : (test : ℕ → Bool) (n k : ℕ) → list_any test (range_with_len 0 n) ≡ false → k < n → test k ≡ false
none_below test n k none less =
    let same : 0 + k ≡ k = omega arith in
    subst (λ (m : ℕ). test m ≡ false) same (range_none test 0 n k none less)

not_kept_below : (test : ℕ → Bool) (n k : ℕ) → has_place (filter test (range_with_len 0 n)) k ≡ false → k < n → test k ≡ false
not_kept_below test n k none less =
    let same : 0 + k ≡ k = omega arith in
    let there = subst (λ (m : ℕ). has_place (filter test (range_with_len 0 n)) m ≡ false) (sym same) none in
    subst (λ (m : ℕ). test m ≡ false) same (not_kept test 0 n k there less)

-- ---- who is placed

-- all that a plan places take part
placed_wait : (n : ℕ) (edge : ℕ → ℕ → Bool) (left rest : List Bool) (picks : List Pick) → ((k : ℕ) → waits rest k ≡ true → waits left k ≡ true)
    → IsPlan n edge rest picks → AllByRecursion (λ (i : ℕ). waits left i ≡ true) (order_of picks)
placed_wait n edge left rest [] inside p = tt
placed_wait n edge left rest (Place i ∷ picks) inside p =
    (inside i p.0.unpicked, placed_wait n edge left (set rest i false) picks (λ k h. inside k (others_still rest i k h)) p.1)
placed_wait n edge left rest (Abort i ∷ picks) inside p =
    placed_wait n edge left (set rest i false) picks (λ k h. inside k (others_still rest i k h)) p.1

not_true : (b : Bool) → not b ≡ true → b ≡ false
not_true true h = absurd cc
not_true false h = refl

-- who takes part is not stale
part_fresh : (batch : List Envelope) (i : ℕ) → waits (all_but (stale batch) (length batch)) i ≡ true → (is_stale batch i ≡ false) × (i < length batch)
part_fresh batch i waiting =
    let n = length batch in
    let less = part_within (stale batch) n i waiting in
    let gone = not_true (has_place (stale batch) i) (sym (others_wait (stale batch) n i less) ∙ waiting) in
    (not_kept_below (is_stale batch) n i gone less, less)

-- ---- what holds between survivors

-- between an envelope and those that stand behind it
abbrev IsApart : Envelope → Envelope → Type 0
IsApart e d =
    (read_older_than e.payload d.payload ≡ false) × (read_older_than d.payload e.payload ≡ false) × (sees_write_of d.payload e.payload ≡ false)

abbrev pub IsAheadOf : Envelope → List Envelope → Type 0
IsAheadOf e ds = AllByRecursion (λ d. IsApart e d) ds

abbrev pub AreFresh : List Envelope → Type 0
AreFresh [] = Unit {0}
AreFresh (e ∷ es) = IsAheadOf e es × AreFresh es

apart_there : (relation : Payload → Payload → Bool) (batch : List Envelope) (i j : ℕ) (e d : Envelope) → slice_get batch i ≡ Some e → slice_get batch j ≡ Some d
    → eqb i j ≡ false → apart relation batch i j ≡ false → relation e.payload d.payload ≡ false
unfolding apart
apart_there relation batch i j e d at_i at_j other none =
    let whole : (not (eqb i j) && both_there relation (slice_get batch i) (slice_get batch j)) ≡ false = none in
    (λ k. both_there relation (sym at_i k) (sym at_j k)) ∙ not_and (eqb i j) (both_there relation (slice_get batch i) (slice_get batch j)) other whole

-- one that is not stale read nothing older than another one
reads_newest : (batch : List Envelope) (i j : ℕ) (e d : Envelope) → slice_get batch i ≡ Some e → slice_get batch j ≡ Some d → j < length batch
    → eqb i j ≡ false → is_stale batch i ≡ false → read_older_than e.payload d.payload ≡ false
unfolding is_stale
reads_newest batch i j e d at_i at_j less other fresh =
    let none : apart read_older_than batch i j ≡ false = none_below (apart read_older_than batch i) (length batch) j fresh less in
    apart_there read_older_than batch i j e d at_i at_j other none

other_way : (i j : ℕ) → eqb i j ≡ false → eqb j i ≡ false
other_way i j h =
    elim (eqb j i) as (λ b. eqb j i ≡ b → b ≡ false) [ true ↦ λ is. absurd (eqb-false i j h (sym (eqb-true j i is))) | false ↦ λ is. refl ] refl

none_same : (i j : ℕ) (js : List ℕ) → count_by (λ x. eqb x i) (j ∷ js) ≡ 0 → (eqb j i ≡ false) × (count_by (λ x. eqb x i) js ≡ 0)
none_same i j js none =
    let split = sum_by-cons (λ y. cond {A = ℕ} (eqb y i) 1 0) j js in
    elim (eqb j i) as (λ b. eqb j i ≡ b → (b ≡ false) × (count_by (λ x. eqb x i) js ≡ 0)) [
      | true ↦ λ is. let one : cond {A = ℕ} (eqb j i) 1 0 ≡ 1 = ap (λ (b : Bool). cond {A = ℕ} b 1 0) is in absurd omega (arith, none, split, one)
      | false ↦ λ is. (refl, omega (arith, none, split))
    ] refl

none_again : (i : ℕ) (is : List ℕ) → ((place : ℕ) → count_by (λ x. eqb x place) (i ∷ is) ≤ 1) → count_by (λ x. eqb x i) is ≡ 0
none_again i is once =
    let here : cond {A = ℕ} (eqb i i) 1 0 ≡ 1 = ap (λ (b : Bool). cond {A = ℕ} b 1 0) (eq-eqb i i refl) in
    omega (arith, once i, sum_by-cons (λ y. cond {A = ℕ} (eqb y i) 1 0) i is, here)

once_less : (i : ℕ) (is : List ℕ) → ((place : ℕ) → count_by (λ x. eqb x place) (i ∷ is) ≤ 1) → (place : ℕ) → count_by (λ x. eqb x place) is ≤ 1
once_less i is once place = omega (arith, once place, sum_by-cons (λ y. cond {A = ℕ} (eqb y place) 1 0) i is)

-- a place that takes part in the batch and is not stale
abbrev IsFreshPlace : List Envelope → ℕ → Type 0
IsFreshPlace batch i = (is_stale batch i ≡ false) × (i < length batch)

ahead_of : (batch : List Envelope) (i : ℕ) (e : Envelope) (js : List ℕ) → slice_get batch i ≡ Some e → IsFreshPlace batch i
    → count_by (λ x. eqb x i) js ≡ 0 → AllByRecursion (IsFreshPlace batch) js → AllAfter (edge_of batch) i js → IsAheadOf e (envelopes_at batch js)
ahead_of batch i e [] at fresh none each after = tt
ahead_of batch i e (j ∷ js) at fresh none each after =
    let apart_is = none_same i j js none in
    let rest = ahead_of batch i e js at fresh apart_is.1 each.1 after.1 in
    elim (slice_get batch j) as (λ o. slice_get batch j ≡ o → IsAheadOf e (option_to_list o ++ envelopes_at batch js)) [
      | None ↦ λ is. rest
      | Some d ↦ λ is. (
        (
          reads_newest batch i j e d at is each.0.1 (other_way j i apart_is.0) fresh.0,
          reads_newest batch j i d e is at fresh.1 apart_is.0 each.0.0,
          apart_there sees_write_of batch j i d e is at apart_is.0 after.0,
        ),
        rest,
      )
    ] refl

are_fresh : (batch : List Envelope) (order : List ℕ) → ((place : ℕ) → count_by (λ x. eqb x place) order ≤ 1)
    → AllByRecursion (IsFreshPlace batch) order → plan.IsLegal (edge_of batch) order → AreFresh (envelopes_at batch order)
are_fresh batch [] once each legal = tt
are_fresh batch (i ∷ is) once each legal =
    let rest = are_fresh batch is (once_less i is once) each.1 legal.1 in
    elim (slice_get batch i) as (λ o. slice_get batch i ≡ o → AreFresh (option_to_list o ++ envelopes_at batch is)) [
      | None ↦ λ at. rest
      | Some e ↦ λ at. (ahead_of batch i e is at each.0 (none_again i is once) each.1 legal.0, rest)
    ] refl

each_fresh : (batch : List Envelope) (order : List ℕ) → AllByRecursion (λ (i : ℕ). waits (all_but (stale batch) (length batch)) i ≡ true) order
    → AllByRecursion (IsFreshPlace batch) order
each_fresh batch [] each = tt
each_fresh batch (i ∷ is) each = (part_fresh batch i each.0, each_fresh batch is each.1)

-- the survivors of an arranged batch
pub survivors_fresh : (batch : List Envelope) (order dropped : List ℕ) → ((place : ℕ) → count_by (λ x. eqb x place) order ≤ 1)
    → IsPlanned (length batch) (edge_of batch) (all_but (stale batch) (length batch)) order dropped → AreFresh (envelopes_at batch order)
survivors_fresh batch order dropped once planned =
    let n = length batch in
    let left = all_but (stale batch) n in
    let waiting = subst (AllByRecursion (λ (i : ℕ). waits left i ≡ true)) (sym planned.order_is)
    (placed_wait n (edge_of batch) left left planned.picks (λ k h. h) planned.plan) in
    are_fresh batch order once (each_fresh batch order waiting) (planned_legal n (edge_of batch) left order dropped planned)

-- ---- by places

later_apart : (e : Envelope) (es : List Envelope) (j : ℕ) (d : Envelope) → IsAheadOf e es → slice_get es j ≡ Some d → IsApart e d
later_apart e [] j d ahead at = absurd cc
later_apart e (x ∷ es) zero d ahead at =
    let same : x ≡ d = cc in
    subst (λ (y : Envelope). IsApart e y) same ahead.0
later_apart e (x ∷ es) (suc j) d ahead at = later_apart e es j d ahead.1 at

apart_at : (es : List Envelope) (i j : ℕ) (e d : Envelope) → AreFresh es → i < j → slice_get es i ≡ Some e → slice_get es j ≡ Some d → IsApart e d
apart_at [] i j e d fresh less at_i at_j = absurd cc
apart_at (x ∷ es) i zero e d fresh less at_i at_j = absurd (omega (arith, less))
apart_at (x ∷ es) zero (suc j) e d fresh less at_i at_j =
    let same : x ≡ e = cc in
    subst (λ (y : Envelope). IsApart y d) same (later_apart x es j d fresh.0 at_j)
apart_at (x ∷ es) (suc i) (suc j) e d fresh less at_i at_j = apart_at es i j e d fresh.1 (omega (arith, less)) at_i at_j

none_older : (es : List Envelope) (i j : ℕ) (e d : Envelope) → AreFresh es → i ≢ j → slice_get es i ≡ Some e → slice_get es j ≡ Some d
    → read_older_than e.payload d.payload ≡ false
none_older es i j e d fresh other at_i at_j =
    elim (cases_lt i j) as (λ _. read_older_than e.payload d.payload ≡ false) [
      | inl less ↦ (apart_at es i j e d fresh less at_i at_j).0
      | inr past ↦ (apart_at es j i d e fresh (omega (arith, past, other)) at_j at_i).1
    ]

-- a relation between two places, where it holds of no two envelopes there
apart_none : (relation : Payload → Payload → Bool) (es : List Envelope) (i j : ℕ)
    → (i ≢ j → (e d : Envelope) → slice_get es i ≡ Some e → slice_get es j ≡ Some d → relation e.payload d.payload ≡ false)
    → apart relation es i j ≡ false
unfolding apart
apart_none relation es i j none =
    elim (eqb i j) as (λ b. eqb i j ≡ b → (not b && both_there relation (slice_get es i) (slice_get es j)) ≡ false) [
      | true ↦ λ is. refl
      | false ↦ λ is.
          elim (slice_get es i) as (λ o. slice_get es i ≡ o → both_there relation o (slice_get es j) ≡ false) [
            | None ↦ λ at. refl
            | Some e ↦ λ at.
                elim (slice_get es j) as (λ o. slice_get es j ≡ o → both_there relation (Some e) o ≡ false) [
                  | None ↦ λ there. refl
                  | Some d ↦ λ there. none (eqb-false i j is) e d at there
                ] refl
          ] refl
    ] refl

pub none_stale : (es : List Envelope) → AreFresh es → (i : ℕ) → is_stale es i ≡ false
unfolding is_stale
none_stale es fresh i =
    any_none (apart read_older_than es i)
    (λ j. apart_none read_older_than es i j (λ other e d at_i at_j. none_older es i j e d fresh other at_i at_j)) (indices es)

filter_none : (test : ℕ → Bool) → ((i : ℕ) → test i ≡ false) → (xs : List ℕ) → filter test xs ≡ []
filter_none test none [] = refl
filter_none test none (x ∷ xs) = rw (none x) (filter_none test none xs)

pub fresh_stale : (es : List Envelope) → AreFresh es → stale es ≡ []
fresh_stale es fresh = filter_none (is_stale es) (none_stale es fresh) (indices es)

-- none has to stand before one that stands before it
no_edge_back : (es : List Envelope) → AreFresh es → (i j : ℕ) → i < j → edge_of es j i ≡ false
no_edge_back es fresh i j less =
    apart_none sees_write_of es j i (λ other d e at_j at_i. (apart_at es i j e d fresh less at_i at_j).2)

-- ---- the plan

-- all from a place on wait
abbrev FromOn : (n k : ℕ) → List Bool → Type 0
FromOn n k left = (length left ≡ n) × ((i : ℕ) → k ≤ i → i < n → waits left i ≡ true) × ((i : ℕ) → i < k → waits left i ≡ false)

past_waits : (left : List Bool) (n i : ℕ) → length left ≡ n → n ≤ i → waits left i ≡ false
past_waits left n i long past = get_or_past left i false (omega (arith, long, past))

-- who waits is at that place, or behind it
waits_from : (n k : ℕ) (left : List Bool) → FromOn n k left → (i : ℕ) → waits left i ≡ true → k ≤ i
waits_from n k left on i waiting =
    elim (cases_lt i k) as (λ _. k ≤ i) [
      | inl less ↦ let never = sym (on.2 i less) ∙ waiting in absurd cc
      | inr past ↦ past
    ]

abbrev places : (k m : ℕ) → List Pick
places k m = map Place (range_with_len k m)

plan_on : (es : List Envelope) → AreFresh es → (n k m : ℕ) (left : List Bool) → n ≡ k + m → FromOn n k left → IsPlan n (edge_of es) left (places k m)
plan_on es fresh n k zero left all on = λ i.
    elim (cases_lt i k) as (λ _. waits left i ≡ false) [
      | inl less ↦ on.2 i less
      | inr past ↦ past_waits left n i on.0 (omega (arith, all, past))
    ]
plan_on es fresh n k (suc m) left all on =
    let free : IsFree (edge_of es) left k = λ j waiting.
    elim (cases_lt k j) as (λ _. edge_of es j k ≡ false) [
      | inl less ↦ no_edge_back es fresh k j less
      | inr past ↦
          let same : j ≡ k = omega (arith, past, waits_from n k left on j waiting) in
          subst (λ (x : ℕ). edge_of es x k ≡ false) (sym same) (no_loop es k)
    ]
    in
    let next : FromOn n (k + 1) (set left k false) = (
      length-set left k false ∙ on.0,
      (λ i from less. get_or-set_other left k i false false (λ same. omega (arith, from, same)) ∙ on.1 i (omega (arith, from)) less),
      (λ i less.
          elim (cases_lt i k) as (λ _. waits (set left k false) i ≡ false) [
            | inl before ↦ get_or-set_other left k i false false (λ same. omega (arith, before, same)) ∙ on.2 i before
            | inr past ↦ let same : i ≡ k = omega (arith, less, past) in subst (λ (x : ℕ). waits (set left k false) x ≡ false) (sym same) (picked left k)
          ]),
    )
    in (
      record {
        unpicked = on.1 k (omega arith) (omega (arith, all));
        free = free;
        smallest = λ j less waiting isfree. let from = waits_from n k left on j waiting in omega (arith, less, from);
      },
      plan_on es fresh n (k + 1) m (set left k false) (omega (arith, all)) next,
    )

all_wait : (n : ℕ) → FromOn n 0 (replicate n true)
all_wait n = (length-replicate n true, (λ i from less. get_or-replicate n i true false less), (λ i less. absurd (omega (arith, less))))

placed_all : (k m : ℕ) → order_of (places k m) ≡ range_with_len k m
placed_all k zero = refl
placed_all k (suc m) = ap (λ (xs : List ℕ). k ∷ xs) (placed_all (k + 1) m)

drops_none : (k m : ℕ) → aborts_of (places k m) ≡ []
drops_none k zero = refl
drops_none k (suc m) = drops_none (k + 1) m

-- the plan of these is the order in which they stand
pub planned_as_is : (es : List Envelope) → AreFresh es → IsPlanned (length es) (edge_of es) (all_but [] (length es)) (indices es) []
planned_as_is es fresh =
    let n = length es in
    record {
      picks = places 0 n;
      plan = plan_on es fresh n 0 n (replicate n true) (omega arith) (all_wait n);
      order_is = sym (placed_all 0 n);
      dropped_is = sym (drops_none 0 n);
    }

pub none_aborts : (xs : List ℕ) → aborts [] [] xs ≡ []
none_aborts [] = refl
none_aborts (x ∷ xs) = none_aborts xs
