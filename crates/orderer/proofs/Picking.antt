-- What survives of a batch takes no more room than the batch.
use Rattle.std.proofs.Common.{◌≡◌, ℕ, zero, suc, ◌+◌, ◌<◌, ◌≤◌, ◌++◌, take, get_or, Bool, true, false, cond, eqb, ltb, List, [], ◌∷◌, length, refl, sym, ap}
use Rattle.std.proofs.Common.{subst, ◌∙◌, arith}
use Rattle.std.specs.Prelude.{if◌then◌else◌}
use Rattle.std.specs.List.{flat_map, sum_by, count_by, range_with_len, slice_get}
use Rattle.std.specs.Option.{option_to_list}
use Rattle.std.proofs.Math.Seq.{take-suc}
use Rattle.std.proofs.lemmas.Grind.{flat_map-append}
use Rattle.std.proofs.lemmas.List.{append-nil}
use Rattle.std.proofs.lemmas.List.Sums.{sum_by-cons, sum_by-append, sum_by_push}
use Rattle.std.proofs.lemmas.Bool.{eqb-true, eqb-false, ltb-true, ltb-false, lt-ltb, le-ltb}
use Rattle.fab_types.specs.Data.{IsBlockData}
use Rattle.fab_types.specs.Size.{envelope_size}
use Rattle.fab_types.specs.declared.envelope.Envelope.{Envelope}
use Rattle.orderer.specs.Places.{envelopes_at, ArePlaces}

shift : {A : Type 0} (f : ℕ → List A) (k n : ℕ) → flat_map f (range_with_len (suc k) n) ≡ flat_map (λ i. f (suc i)) (range_with_len k n)
shift f k zero = refl
shift f k (suc n) =
    let same : suc k + 1 ≡ suc (k + 1) = omega arith in
    ap (λ rest. f (suc k) ++ rest) (ap (λ m. flat_map f (range_with_len m n)) same ∙ shift f (k + 1) n)

-- all places of a batch give the batch
pub all_picked : (batch : List Envelope) → envelopes_at batch (range_with_len 0 (length batch)) ≡ batch
all_picked [] = refl
all_picked (e ∷ es) =
    ap (λ rest. e ∷ rest) (shift (λ place. option_to_list (slice_get (e ∷ es) place)) 0 (length es) ∙ all_picked es)

sum_flat : {A : Type 0} (w : A → ℕ) (f : ℕ → List A) (xs : List ℕ) → sum_by w (flat_map f xs) ≡ sum_by (λ x. sum_by w (f x)) xs
sum_flat w f [] = refl
sum_flat w f (x ∷ xs) = omega (arith, sum_by-append w (f x) (flat_map f xs), sum_by-cons (λ x. sum_by w (f x)) x xs, sum_flat w f xs)

-- one number more
pub range_more : (k n : ℕ) → range_with_len k (n + 1) ≡ range_with_len k n ++ (k + n) ∷ []
range_more k zero = let same : k + 0 ≡ k = omega arith in rw same refl
range_more k (suc n) =
    let count : suc n + 1 ≡ suc (n + 1) = omega arith in
    let last : k + 1 + n ≡ k + suc n = omega arith in
    ap (range_with_len k) count ∙ ap (λ (xs : List ℕ). k ∷ xs) (range_more (k + 1) n ∙ ap (λ m. range_with_len (k + 1) n ++ m ∷ []) last)

range_last : (n : ℕ) → range_with_len 0 (suc n) ≡ range_with_len 0 n ++ n ∷ []
range_last n =
    let next : suc n ≡ n + 1 = omega arith in
    let last : 0 + n ≡ n = omega arith in
    ap (range_with_len 0) next ∙ range_more 0 n ∙ ap (λ m. range_with_len 0 n ++ m ∷ []) last

-- ---- places that stand once

-- the weights of the places below a number
abbrev below : (ℕ → ℕ) → ℕ → ℕ → ℕ
below v n x = cond (ltb x n) (v x) 0

below_in : (v : ℕ → ℕ) (n x : ℕ) → x < n → below v n x ≡ v x
below_in v n x less = ap (λ (b : Bool). cond b (v x) 0) (lt-ltb x n less)

below_out : (v : ℕ → ℕ) (n x : ℕ) → n ≤ x → below v n x ≡ 0
below_out v n x past = ap (λ (b : Bool). cond b (v x) 0) (le-ltb x n past)

same_below : (v : ℕ → ℕ) (n x : ℕ) (less more : Bool) → ltb x n ≡ less → ltb n x ≡ more → (x ≡ n → ⊥) → below v (suc n) x ≡ below v n x
same_below v n x true more lt gt other = below_in v (suc n) x (omega (arith, ltb-true x n lt)) ∙ sym (below_in v n x (ltb-true x n lt))
same_below v n x false true lt gt other =
    let past = ltb-true n x gt in
    below_out v (suc n) x (omega (arith, past)) ∙ sym (below_out v n x (omega (arith, past)))
same_below v n x false false lt gt other = absurd (other (omega (arith, ltb-false x n lt, ltb-false n x gt)))

is_one : (b : Bool) → b ≡ true → ◌≡◌ {A = ℕ} (cond b 1 0) 1
is_one b is = rw is refl

is_zero : (b : Bool) → b ≡ false → ◌≡◌ {A = ℕ} (cond b 1 0) 0
is_zero b is = rw is refl

none_more : (v : ℕ → ℕ) (n x : ℕ) (xs : List ℕ) (test : Bool) → eqb x n ≡ test → count_by (λ y. eqb y n) (x ∷ xs) ≤ 0
    → (count_by (λ y. eqb y n) xs ≤ 0 → sum_by (below v (suc n)) xs ≤ sum_by (below v n) xs) → sum_by (below v (suc n)) (x ∷ xs) ≤ sum_by (below v n) (x ∷ xs)
none_more v n x xs true is none later =
    absurd omega (arith, none, sum_by-cons (λ y. cond (eqb y n) 1 0) x xs, is_one (eqb x n) is)
none_more v n x xs false is none later =
    let rest = later (omega (arith, none, sum_by-cons (λ y. cond (eqb y n) 1 0) x xs)) in
    let here = same_below v n x (ltb x n) (ltb n x) refl refl (eqb-false x n is) in
    omega (arith, rest, here, sum_by-cons (below v (suc n)) x xs, sum_by-cons (below v n) x xs)

none_at : (v : ℕ → ℕ) (n : ℕ) (xs : List ℕ) → count_by (λ x. eqb x n) xs ≤ 0 → sum_by (below v (suc n)) xs ≤ sum_by (below v n) xs
none_at v n [] none = omega arith
none_at v n (x ∷ xs) none = none_more v n x xs (eqb x n) refl none (none_at v n xs)

once_more : (v : ℕ → ℕ) (n x : ℕ) (xs : List ℕ) (test : Bool) → eqb x n ≡ test → count_by (λ y. eqb y n) (x ∷ xs) ≤ 1
    → (count_by (λ y. eqb y n) xs ≤ 1 → sum_by (below v (suc n)) xs ≤ sum_by (below v n) xs + v n) →
    sum_by (below v (suc n)) (x ∷ xs) ≤ sum_by (below v n) (x ∷ xs) + v n
once_more v n x xs true is once later =
    let same = eqb-true x n is in
    let rest = none_at v n xs (omega (arith, once, sum_by-cons (λ y. cond (eqb y n) 1 0) x xs, is_one (eqb x n) is)) in
    let here = below_in v (suc n) x (omega (arith, same)) in
    omega (arith, rest, here, ap v same, sum_by-cons (below v (suc n)) x xs, sum_by-cons (below v n) x xs)
once_more v n x xs false is once later =
    let rest = later (omega (arith, once, sum_by-cons (λ y. cond (eqb y n) 1 0) x xs)) in
    let here = same_below v n x (ltb x n) (ltb n x) refl refl (eqb-false x n is) in
    omega (arith, rest, here, sum_by-cons (below v (suc n)) x xs, sum_by-cons (below v n) x xs)

once_at : (v : ℕ → ℕ) (n : ℕ) (xs : List ℕ) → count_by (λ x. eqb x n) xs ≤ 1 → sum_by (below v (suc n)) xs ≤ sum_by (below v n) xs + v n
once_at v n [] once = omega arith
once_at v n (x ∷ xs) once = once_more v n x xs (eqb x n) refl once (once_at v n xs)

nothing_below : (v : ℕ → ℕ) (xs : List ℕ) → sum_by (below v 0) xs ≡ 0
nothing_below v [] = refl
nothing_below v (x ∷ xs) = omega (arith, sum_by-cons (below v 0) x xs, below_out v 0 x (omega arith), nothing_below v xs)

-- together they weigh no more than all places
each_once : (v : ℕ → ℕ) (n : ℕ) (xs : List ℕ) → ((place : ℕ) → count_by (λ x. eqb x place) xs ≤ 1) → sum_by (below v n) xs ≤ sum_by v (range_with_len 0 n)
each_once v zero xs once = omega (arith, nothing_below v xs)
each_once v (suc n) xs once =
    omega (arith, once_at v n xs (once n), each_once v n xs once, ap (sum_by v) (range_last n), sum_by_push v (range_with_len 0 n) n)

eqb_same : (n : ℕ) (test : Bool) → eqb n n ≡ test → eqb n n ≡ true
eqb_same n true is = is
eqb_same n false is = absurd (eqb-false n n is refl)

place_fits : (v : ℕ → ℕ) (n x : ℕ) (xs : List ℕ) (test : Bool) → ltb x n ≡ test → count_by (λ y. eqb y x) (x ∷ xs) ≤ (if test then 1 else 0) → v x ≤ below v n x
place_fits v n x xs true is once = omega (arith, below_in v n x (ltb-true x n is))
place_fits v n x xs false is once =
    absurd omega (arith, once, sum_by-cons (λ y. cond (eqb y x) 1 0) x xs, is_one (eqb x x) (eqb_same x (eqb x x) refl))

less_count : (whole one rest most : ℕ) → whole ≤ most → whole ≡ one + rest → rest ≤ most
less_count whole one rest most le split = omega (arith, le, split)

one_less : (n x : ℕ) (xs : List ℕ) → ArePlaces n (x ∷ xs) → ArePlaces n xs
one_less n x xs are place =
    less_count (count_by (λ y. eqb y place) (x ∷ xs)) (cond (eqb x place) 1 0) (count_by (λ y. eqb y place) xs) (if ltb place n then 1 else 0) (are place)
    (sum_by-cons (λ y. cond (eqb y place) 1 0) x xs)

all_below : (v : ℕ → ℕ) (n : ℕ) (xs : List ℕ) → ArePlaces n xs → sum_by v xs ≤ sum_by (below v n) xs
all_below v n [] are = omega arith
all_below v n (x ∷ xs) are =
    let rest = all_below v n xs (one_less n x xs are) in
    let here = place_fits v n x xs (ltb x n) refl (are x) in
    omega (arith, rest, here, sum_by-cons v x xs, sum_by-cons (below v n) x xs)

at_most_one : (test : Bool) (count : ℕ) → count ≤ (if test then 1 else 0) → count ≤ 1
at_most_one true count most = most
at_most_one false count most = omega (arith, most)

pub sum_picked : (w : Envelope → ℕ) (batch : List Envelope) (order : List ℕ) → ArePlaces (length batch) order →
    sum_by w (envelopes_at batch order) ≤ sum_by w batch
sum_picked w batch order places =
    let f = λ (place : ℕ). option_to_list (slice_get batch place) in
    let v = λ (place : ℕ). sum_by w (f place) in
    let n = length batch in
    let all = range_with_len 0 n in
    let whole : sum_by v all ≡ sum_by w batch = sym (sum_flat w f all) ∙ ap (sum_by w) (all_picked batch) in
    let each = each_once v n order (λ place. at_most_one (ltb place n) (count_by (λ x. eqb x place) order) (places place)) in
    omega (arith, sum_flat w f order, all_below v n order places, each, whole)

place_more : (n place : ℕ) (less same : Bool) → ltb place n ≡ less → eqb n place ≡ same →
    count_by (λ x. eqb x place) (range_with_len 0 n) ≤ (if less then 1 else 0)
    → count_by (λ x. eqb x place) (range_with_len 0 n ++ n ∷ []) ≤ (if ltb place (suc n) then 1 else 0)
place_more n place true true lt eq most = absurd omega (arith, ltb-true place n lt, eqb-true n place eq)
place_more n place true false lt eq most =
    let inside = lt-ltb place (suc n) (omega (arith, ltb-true place n lt)) in
    let push = sum_by_push (λ y. cond (eqb y place) 1 0) (range_with_len 0 n) n in
    subst (λ (b : Bool). count_by (λ x. eqb x place) (range_with_len 0 n ++ n ∷ []) ≤ (if b then 1 else 0)) (sym inside)
    (omega (arith, most, push, is_zero (eqb n place) eq))
place_more n place false true lt eq most =
    let inside = lt-ltb place (suc n) (omega (arith, eqb-true n place eq)) in
    let push = sum_by_push (λ y. cond (eqb y place) 1 0) (range_with_len 0 n) n in
    subst (λ (b : Bool). count_by (λ x. eqb x place) (range_with_len 0 n ++ n ∷ []) ≤ (if b then 1 else 0)) (sym inside)
    (omega (arith, most, push, is_one (eqb n place) eq))
place_more n place false false lt eq most =
    let push = sum_by_push (λ y. cond (eqb y place) 1 0) (range_with_len 0 n) n in
    let none : count_by (λ x. eqb x place) (range_with_len 0 n ++ n ∷ []) ≡ 0 = omega (arith, most, push, is_zero (eqb n place) eq) in
    subst (λ (m : ℕ). m ≤ (if ltb place (suc n) then 1 else 0)) (sym none) (omega arith)

-- all places of a batch are its places
pub all_are_places : (n : ℕ) → ArePlaces n (range_with_len 0 n)
all_are_places zero place = omega arith
all_are_places (suc n) place =
    subst (λ (xs : List ℕ). count_by (λ x. eqb x place) xs ≤ (if ltb place (suc n) then 1 else 0)) (sym (range_last n))
    (place_more n place (ltb place n) (eqb n place) refl refl (all_are_places n place))

counted : {A : Type 0} (xs : List A) → sum_by (λ x. 1) xs ≡ length xs
counted [] = refl
counted (x ∷ xs) = omega (arith, sum_by-cons (λ x. 1) x xs, counted xs)

-- survivors of a batch of a block's data are a block's data, unless there are none
pub survivors_are_data : (batch : List Envelope) (order : List ℕ) → ArePlaces (length batch) order → IsBlockData batch → 1 ≤ length (envelopes_at batch order) →
    IsBlockData (envelopes_at batch order)
survivors_are_data batch order places fits some =
    let size = sum_picked envelope_size batch order places in
    let count = sum_picked (λ e. 1) batch order places in
    record {
      least = some;
      greatest = omega (arith, count, counted (envelopes_at batch order), counted batch, fits.greatest);
      size = omega (arith, size, fits.size);
    }

-- one place more
pub picked_more : (batch : List Envelope) (order : List ℕ) (i d : ℕ) → i < length order →
    envelopes_at batch (take (i + 1) order) ≡ envelopes_at batch (take i order) ++ option_to_list (slice_get batch (get_or order i d))
picked_more batch order i d below =
    let next : i + 1 ≡ suc i = omega arith in
    ap (λ m. envelopes_at batch (take m order)) next ∙ ap (envelopes_at batch) (take-suc order i d below) ∙
    flat_map-append (λ place. option_to_list (slice_get batch place)) (take i order) (get_or order i d ∷ []) ∙
    ap (λ es. envelopes_at batch (take i order) ++ es) (append-nil (option_to_list (slice_get batch (get_or order i d))))
