-- What holds of every plan.
use Rattle.std.proofs.Common.{◌≡◌, ◌≢◌, ℕ, ◌+◌, ◌<◌, Bool, true, false, cond, List, [], ◌∷◌, ◌++◌, take, suc, zero, refl, sym, ap, ◌∙◌, subst, inl, inr}
use Rattle.std.proofs.Common.{◌⊎◌, arith, set, get_or, length, eqb, zero-add, replicate}
use Rattle.std.specs.List.{count_by}
use Rattle.std.proofs.lemmas.List.Sums.{sum_by-cons, sum_by-append}
use Rattle.std.proofs.lemmas.List.{take_more, get_or_past, length-replicate, length-set}
use Rattle.std.proofs.lemmas.Bool.{cases_lt, eqb-true, eq-eqb}
use Rattle.std.proofs.Common.{get_or-set_other}
use Rattle.reorder.specs.declared.pick.Pick.{Pick}
use Rattle.reorder.specs.declared.pick.Pick.TheVariants.{Place, Abort}
use Rattle.reorder.specs.Plan.{waits, IsFree, IsPick, IsPlan, index, degree, order_of, aborts_of, AllAfter, IsLegal, IsIn, IsPlanned, times_picked, without}
use Rattle.reorder.specs.Plan.{all_but}

-- what was picked does not wait
pub picked : (left : List Bool) (i : ℕ) → waits (set left i false) i ≡ false
picked [] zero = refl
picked [] (suc i) = refl
picked (x ∷ xs) zero = refl
picked (x ∷ xs) (suc i) = picked xs i

-- picking one leaves the others
pub others_wait : (left : List Bool) (i k : ℕ) → waits (set left i false) k ≡ true → waits left k ≡ true
others_wait [] zero k h = h
others_wait [] (suc i) k h = h
others_wait (x ∷ xs) zero zero h = absurd (cc)
others_wait (x ∷ xs) zero (suc k) h = h
others_wait (x ∷ xs) (suc i) zero h = h
others_wait (x ∷ xs) (suc i) (suc k) h = others_wait xs i k h

pub unpicked_of : (n : ℕ) (edge : ℕ → ℕ → Bool) (left : List Bool) (pick : Pick) → IsPick n edge left pick → waits left (index pick) ≡ true
unpicked_of n edge left (Place i) p = p.unpicked
unpicked_of n edge left (Abort i) p = p.1.unpicked

-- what is placed later has no edge into what is free now
placed_after : (n : ℕ) (edge : ℕ → ℕ → Bool) (left rest : List Bool) (i : ℕ) (picks : List Pick) → IsFree edge left i →
    ((k : ℕ) → waits rest k ≡ true → waits left k ≡ true) → IsPlan n edge rest picks → AllAfter edge i (order_of picks)
placed_after n edge left rest i [] free inside p = tt
placed_after n edge left rest i (Place j ∷ picks) free inside p =
    (free j (inside j p.0.unpicked), placed_after n edge left (set rest j false) i picks free (λ k h. inside k (others_wait rest j k h)) p.1)
placed_after n edge left rest i (Abort j ∷ picks) free inside p =
    placed_after n edge left (set rest j false) i picks free (λ k h. inside k (others_wait rest j k h)) p.1

-- the placed ones stand in a legal order
pub placed_legal : (n : ℕ) (edge : ℕ → ℕ → Bool) (left : List Bool) (picks : List Pick) → IsPlan n edge left picks → IsLegal edge (order_of picks)
placed_legal n edge left [] p = tt
placed_legal n edge left (Place i ∷ picks) p =
    (placed_after n edge left (set left i false) i picks p.0.free (λ k h. others_wait left i k h) p.1, placed_legal n edge (set left i false) picks p.1)
placed_legal n edge left (Abort i ∷ picks) p = placed_legal n edge (set left i false) picks p.1

after_in : (edge : ℕ → ℕ → Bool) (i k : ℕ) (order : List ℕ) → AllAfter edge i order → IsIn k order → edge k i ≡ false
after_in edge i k [] a h = absurd h
after_in edge i k (j ∷ js) a (inl e) = ap (λ (x : ℕ). edge x i) e ∙ a.0
after_in edge i k (j ∷ js) a (inr h) = after_in edge i k js a.1 h

-- the first that waits is free
free_here : (edge : ℕ → ℕ → Bool) (left : List Bool) (x : ℕ) (xs : List ℕ) → ((k : ℕ) → edge k k ≡ false) → AllAfter edge x xs →
    ((k : ℕ) → waits left k ≡ true → IsIn k (x ∷ xs)) → IsFree edge left x
free_here edge left x xs loops after covers k w =
    elim (covers k w) as (λ _. edge k x ≡ false) [ inl e ↦ ap (λ (y : ℕ). edge y x) e ∙ loops x | inr h ↦ after_in edge x k xs after h ]

true≢false : (b : Bool) → b ≡ true → b ≡ false → ⊥
true≢false b p q = cc

cases_bool : (b : Bool) → (b ≡ true) ⊎ (b ≡ false)
cases_bool true = inl refl
cases_bool false = inr refl

-- in a legal order of all that wait, the first that waits is free
some_free : (edge : ℕ → ℕ → Bool) (left : List Bool) (order : List ℕ) (j : ℕ) → ((k : ℕ) → edge k k ≡ false) → IsLegal edge order →
    ((k : ℕ) → waits left k ≡ true → IsIn k order) → waits left j ≡ true → (i : ℕ) × (waits left i ≡ true) × IsFree edge left i
some_free edge left [] j loops legal covers w = absurd (covers j w)
some_free edge left (x ∷ xs) j loops legal covers w =
    elim (cases_bool (waits left x)) as (λ _. (i : ℕ) × (waits left i ≡ true) × IsFree edge left i) [
      | inl here ↦ (x, here, free_here edge left x xs loops legal.0 covers)
      | inr gone ↦ some_free edge left xs j loops legal.1
          (λ k h. elim (covers k h) as (λ _. IsIn k xs)
          [ inl e ↦ absurd (true≢false (waits left x) (ap (λ (y : ℕ). waits left y) (sym e) ∙ h) gone) | inr inside ↦ inside ]) w
    ]

-- nothing is aborted where all have a legal order
pub none_aborted : (n : ℕ) (edge : ℕ → ℕ → Bool) (left : List Bool) (picks : List Pick) (order : List ℕ) → ((k : ℕ) → edge k k ≡ false) → IsLegal edge order →
    ((k : ℕ) → waits left k ≡ true → IsIn k order) → IsPlan n edge left picks → aborts_of picks ≡ []
none_aborted n edge left [] order loops legal covers p = refl
none_aborted n edge left (Place i ∷ picks) order loops legal covers p =
    none_aborted n edge (set left i false) picks order loops legal (λ k h. covers k (others_wait left i k h)) p.1
none_aborted n edge left (Abort i ∷ picks) order loops legal covers p =
    let free = some_free edge left order i loops legal covers p.0.1.unpicked in
    absurd (p.0.0 free.0 free.1 free.2)

picked_once_more : (left : List Bool) (i k rest : ℕ) → waits left i ≡ true → rest ≡ cond (waits (set left i false) k) 1 0 →
    cond (eqb i k) 1 0 + rest ≡ cond (waits left k) 1 0
picked_once_more left i k rest w e =
    elim (cases_bool (eqb i k)) as (λ _. cond (eqb i k) 1 0 + rest ≡ cond (waits left k) 1 0) [
      | inl same ↦
          let is = eqb-true i k same in
          let gone : waits (set left i false) k ≡ false = subst (λ (x : ℕ). waits (set left i false) x ≡ false) is (picked left i) in
          let here : waits left k ≡ true = subst (λ (x : ℕ). waits left x ≡ true) is w in
          let none : rest ≡ 0 = e ∙ ap (λ (b : Bool). cond b 1 0) gone in
          ap (λ (b : Bool). cond b 1 0 + rest) same ∙ ap (λ (x : ℕ). 1 + x) none ∙ ap (λ (b : Bool). cond b 1 0) (sym here)
      | inr other ↦
          let apart : k ≢ i = λ q. true≢false (eqb i k) (eq-eqb i k (sym q)) other in
          ap (λ (b : Bool). cond b 1 0 + rest) other ∙ zero-add rest ∙ e ∙ ap (λ (b : Bool). cond b 1 0) (get_or-set_other left i k false false apart)
    ]

-- each that waits is picked once, and no other
pub picked_once : (n : ℕ) (edge : ℕ → ℕ → Bool) (left : List Bool) (picks : List Pick) (k : ℕ) → IsPlan n edge left picks →
    times_picked k picks ≡ cond (waits left k) 1 0
picked_once n edge left [] k p = ap (λ (b : Bool). cond b 1 0) (sym (p k))
picked_once n edge left (pick ∷ picks) k p =
    picked_once_more left (index pick) k (times_picked k picks) (unpicked_of n edge left pick p.0)
    (picked_once n edge (set left (index pick) false) picks k p.1)

pick_one : (n : ℕ) (edge : ℕ → ℕ → Bool) (left : List Bool) (p q : Pick) → IsPick n edge left p → IsPick n edge left q → p ≡ q
pick_one n edge left (Place i) (Place j) p q =
    elim (cases_lt i j) as (λ _. Place i ≡ Place j) [
      | inl lt ↦ absurd (q.smallest i lt p.unpicked p.free)
      | inr ge ↦
          elim (cases_lt j i) as (λ _. Place i ≡ Place j) [ inl lt ↦ absurd (p.smallest j lt q.unpicked q.free) | inr le ↦ ap Place (omega arith) ]
    ]
pick_one n edge left (Place i) (Abort j) p q = absurd (q.0 i p.unpicked p.free)
pick_one n edge left (Abort i) (Place j) p q = absurd (p.0 j q.unpicked q.free)
pick_one n edge left (Abort i) (Abort j) p q =
    let a = p.1.most j q.1.unpicked in
    let b = q.1.most i p.1.unpicked in
    let same : degree n edge left j ≡ degree n edge left i = omega arith in
    let le = p.1.largest j q.1.unpicked same in
    let ge = q.1.largest i p.1.unpicked (sym same) in
    ap Abort (omega arith)

-- there is at most one plan
pub plan_one : (n : ℕ) (edge : ℕ → ℕ → Bool) (left : List Bool) (picks others : List Pick) → IsPlan n edge left picks → IsPlan n edge left others →
    picks ≡ others
plan_one n edge left [] [] p q = refl
plan_one n edge left [] (b ∷ bs) p q = absurd (true≢false (waits left (index b)) (unpicked_of n edge left b q.0) (p (index b)))
plan_one n edge left (a ∷ as_) [] p q = absurd (true≢false (waits left (index a)) (unpicked_of n edge left a p.0) (q (index a)))
plan_one n edge left (a ∷ as_) (b ∷ bs) p q =
    let first = pick_one n edge left a b p.0 q.0 in
    let rest = plan_one n edge (set left (index a) false) as_ bs p.1 (subst (λ (x : Pick). IsPlan n edge (set left (index x) false) bs) (sym first) q.1) in
    ap (λ (x : Pick). x ∷ as_) first ∙ ap (λ (xs : List Pick). b ∷ xs) rest

placed-append : (xs ys : List Pick) → order_of (xs ++ ys) ≡ order_of xs ++ order_of ys
placed-append [] ys = refl
placed-append (Place i ∷ xs) ys = ap (λ (a : List ℕ). i ∷ a) (placed-append xs ys)
placed-append (Abort i ∷ xs) ys = placed-append xs ys

aborted-append : (xs ys : List Pick) → aborts_of (xs ++ ys) ≡ aborts_of xs ++ aborts_of ys
aborted-append [] ys = refl
aborted-append (Place i ∷ xs) ys = aborted-append xs ys
aborted-append (Abort i ∷ xs) ys = ap (λ (a : List ℕ). i ∷ a) (aborted-append xs ys)

pub placed_more : (xs : List Pick) (i : ℕ) (d : Pick) → i < length xs → order_of (take (i + 1) xs) ≡ order_of (take i xs) ++ order_of (get_or xs i d ∷ [])
placed_more xs i d h =
    ap order_of (take_more xs i d h) ∙ placed-append (take i xs) (get_or xs i d ∷ [])

pub aborted_more : (xs : List Pick) (i : ℕ) (d : Pick) → i < length xs → aborts_of (take (i + 1) xs) ≡ aborts_of (take i xs) ++ aborts_of (get_or xs i d ∷ [])
aborted_more xs i d h =
    ap aborts_of (take_more xs i d h) ∙ aborted-append (take i xs) (get_or xs i d ∷ [])

count-append : (k : ℕ) (xs ys : List ℕ) → count_by (λ x. eqb x k) (xs ++ ys) ≡ count_by (λ x. eqb x k) xs + count_by (λ x. eqb x k) ys
count-append k xs ys = sum_by-append (λ y. cond (eqb y k) 1 0) xs ys

-- what is placed or aborted is what is picked
count_picks : (k : ℕ) (picks : List Pick) → count_by (λ x. eqb x k) (order_of picks) + count_by (λ x. eqb x k) (aborts_of picks) ≡ times_picked k picks
count_picks k [] = refl
count_picks k (Place i ∷ picks) =
    let rest = count_picks k picks in
    let more = sum_by-cons (λ y. cond {A = ℕ} (eqb y k) 1 0) i (order_of picks) in
    omega arith
count_picks k (Abort i ∷ picks) =
    let rest = count_picks k picks in
    let more = sum_by-cons (λ y. cond {A = ℕ} (eqb y k) 1 0) i (aborts_of picks) in
    omega arith

pub planned_once : (n : ℕ) (edge : ℕ → ℕ → Bool) (left : List Bool) (order dropped : List ℕ) → IsPlanned n edge left order dropped → (k : ℕ) →
    count_by (λ x. eqb x k) (order ++ dropped) ≡ cond (waits left k) 1 0
planned_once n edge left order dropped p k =
    count-append k order dropped
    ∙ ap (λ (xs : List ℕ). count_by (λ x. eqb x k) xs + count_by (λ x. eqb x k) dropped) p.order_is
    ∙ ap (λ (xs : List ℕ). count_by (λ x. eqb x k) (order_of p.picks) + count_by (λ x. eqb x k) xs) p.dropped_is
    ∙ count_picks k p.picks
    ∙ picked_once n edge left p.picks k p.plan

pub planned_legal : (n : ℕ) (edge : ℕ → ℕ → Bool) (left : List Bool) (order dropped : List ℕ) → IsPlanned n edge left order dropped → IsLegal edge order
planned_legal n edge left order dropped p =
    subst (λ (xs : List ℕ). IsLegal edge xs) (sym p.order_is) (placed_legal n edge left p.picks p.plan)

pub planned_whole : (n : ℕ) (edge : ℕ → ℕ → Bool) (left : List Bool) (order dropped : List ℕ) → ((k : ℕ) → edge k k ≡ false) →
    IsPlanned n edge left order dropped → (whole : List ℕ) → IsLegal edge whole → ((k : ℕ) → waits left k ≡ true → IsIn k whole) → dropped ≡ []
planned_whole n edge left order dropped loops p whole legal covers =
    p.dropped_is ∙ none_aborted n edge left p.picks whole loops legal covers p.plan

-- at most one plan, so one order and one list of aborted ones
pub planned_one : (n : ℕ) (edge : ℕ → ℕ → Bool) (left : List Bool) (order others dropped rest : List ℕ) → IsPlanned n edge left order dropped →
    IsPlanned n edge left others rest → (order ≡ others) × (dropped ≡ rest)
planned_one n edge left order others dropped rest p q =
    let same = plan_one n edge left p.picks q.picks p.plan q.plan in
    (p.order_is ∙ ap order_of same ∙ sym q.order_is, p.dropped_is ∙ ap aborts_of same ∙ sym q.dropped_is)

-- one more that takes no part
pub without_more : (gone : List ℕ) (left : List Bool) (i : ℕ) → without (gone ++ i ∷ []) left ≡ set (without gone left) i false
without_more [] left i = refl
without_more (j ∷ gone) left i = without_more gone (set left j false) i

pub length-without : (gone : List ℕ) (left : List Bool) → length (without gone left) ≡ length left
length-without [] left = refl
length-without (j ∷ gone) left = length-without gone (set left j false) ∙ length-set left j false

-- one that waits is one of the batch
pub waits_within : (n : ℕ) (left : List Bool) (k : ℕ) → length left ≡ n → waits left k ≡ true → k < n
waits_within n left k long w =
    elim (cases_lt k n) as (λ _. k < n) [
      | inl lt ↦ lt
      | inr ge ↦ let past = get_or_past left k false (omega arith) in absurd (true≢false (waits left k) w past)
    ]

pub length-all_but : (gone : List ℕ) (n : ℕ) → length (all_but gone n) ≡ n
length-all_but gone n = length-without gone (replicate n true) ∙ length-replicate n true

-- who takes part is one of the batch
pub part_within : (gone : List ℕ) (n k : ℕ) → waits (all_but gone n) k ≡ true → k < n
part_within gone n k w = waits_within n (all_but gone n) k (length-all_but gone n) w
