-- What is kept of entries from a start on and before an end.
use Rattle.std.proofs.Common.{◌≡◌, ℕ, ◌+◌, ◌<◌, ◌≤◌, Bool, true, false, true≢false, cond, ◌&&◌, List, [], ◌∷◌, ◌++◌, length, take, drop, get_or, refl, sym, ap}
use Rattle.std.proofs.Common.{ap₂, ◌∙◌, subst, arith, Some}
use Rattle.std.proofs.lemmas.List.{take-append-drop, drop_more, append-nil}
use Rattle.std.proofs.lemmas.List.Elements.{filter-append}
use Rattle.std.specs.Ordering.{is_lt, is_gt, is_le, ordering_reverse}
use Rattle.std.specs.Cmp.{IsTotalOrder}
use Rattle.std.specs.declared.cmp.Ordering.{Ordering}
use Rattle.std.specs.declared.cmp.Ordering.TheVariants.{Less, Equal, Greater}
use Rattle.std.specs.declared.result.Result.{Result}
use Rattle.std.specs.declared.result.Result.TheVariants.{Ok, Err}
use Rattle.std.specs.List.{AllByRecursion, filter}
use Rattle.persist_map.specs.Entries.{is_from, is_before}
use Rattle.persist_map.specs.Pages.{joined}
use Rattle.persist_map.specs.Search.{entries_before, entries_after, AreBelow, AreAbove, IsPlaceOf, IsFound}
use Rattle.persist_map.specs.Changes.{at_of}
use Rattle.persist_map.proofs.Ordered.{all_mapped, Ascend, gap_below, gap_above}
use Rattle.persist_map.proofs.Laid.{joined_gap, hit_below, hit_above}

pub keep_all : {X : Type 0} (p : X → Bool) (xs : List X) → AllByRecursion (λ x. p x ≡ true) xs → filter p xs ≡ xs
keep_all p [] h = refl
keep_all p (x ∷ xs) h = ap (λ b. cond b (x ∷ filter p xs) (filter p xs)) h.0 ∙ ap (λ l. x ∷ l) (keep_all p xs h.1)

pub keep_none : {X : Type 0} (p : X → Bool) (xs : List X) → AllByRecursion (λ x. p x ≡ false) xs → filter p xs ≡ []
keep_none p [] h = refl
keep_none p (x ∷ xs) h = ap (λ b. cond b (x ∷ filter p xs) (filter p xs)) h.0 ∙ keep_none p xs h.1

both_by : {X : Type 0} (p q : X → Bool) (x : X) (xs : List X) (b : Bool) → filter (λ y. p y && q y) xs ≡ filter q (filter p xs) →
    cond (b && q x) (x ∷ filter (λ y. p y && q y) xs) (filter (λ y. p y && q y) xs) ≡ filter q (cond b (x ∷ filter p xs) (filter p xs))
both_by p q x xs true h = ap (λ l. cond (q x) (x ∷ l) l) h
both_by p q x xs false h = h

pub filter_both : {X : Type 0} (p q : X → Bool) (xs : List X) → filter (λ y. p y && q y) xs ≡ filter q (filter p xs)
filter_both p q [] = refl
filter_both p q (x ∷ xs) = both_by p q x xs (p x) (filter_both p q xs)

-- some that fail and then some that pass, or the other way round
pub keep_later : {X : Type 0} (p : X → Bool) (xs ys : List X) → AllByRecursion (λ x. p x ≡ false) xs → AllByRecursion (λ x. p x ≡ true) ys →
    filter p (xs ++ ys) ≡ ys
keep_later p xs ys h k = filter-append p xs ys ∙ ap₂ (λ a b. a ++ b) (keep_none p xs h) (keep_all p ys k)

pub keep_earlier : {X : Type 0} (p : X → Bool) (xs ys : List X) → AllByRecursion (λ x. p x ≡ true) xs → AllByRecursion (λ x. p x ≡ false) ys →
    filter p (xs ++ ys) ≡ xs
keep_earlier p xs ys h k = filter-append p xs ys ∙ ap₂ (λ a b. a ++ b) (keep_all p xs h) (keep_none p ys k) ∙ append-nil xs

pub all_kept : {X : Type 0} (xs : List X) → filter (λ x. true) xs ≡ xs
all_kept [] = refl
all_kept (x ∷ xs) = ap (λ l. x ∷ l) (all_kept xs)

le_by : (r : Ordering) → is_gt r ≡ false → is_le r ≡ true
le_by Less h = refl
le_by Equal h = refl
le_by Greater h = absurd (true≢false h)

lt_by : (r : Ordering) → is_gt r ≡ false → is_lt (ordering_reverse r) ≡ false
lt_by Less h = refl
lt_by Equal h = refl
lt_by Greater h = absurd (true≢false h)

module _ {K X : Type 0} (cmp : K → K → Ordering) (o : IsTotalOrder cmp) (key : K) where
  -- at the key or above it
  abbrev pub AreFrom : List (K × X) → Type 0
  AreFrom es = AllByRecursion (λ e. is_gt (cmp key e.0) ≡ false) es

  above_from : (es : List (K × X)) → AreAbove cmp key es → AreFrom es
  above_from es h = all_mapped (λ e. cmp key e.0 ≡ Less) (λ e. is_gt (cmp key e.0) ≡ false) (λ e f. ap is_gt f) es h

  pub place_before : (ps : List (List (K × X))) (j : ℕ) (r : Result ℕ ℕ) → IsPlaceOf cmp key ps j r → AreBelow cmp key (entries_before ps j (at_of r))
  place_before ps j (Ok at) w = w.before
  place_before ps j (Err at) w = w.before

  hit_from : (p : List (K × X)) (at : ℕ) (rest : List (K × X)) → at < length p → ((d : K × X) → cmp key (get_or p at d).0 ≡ Equal) →
      AreAbove cmp key (drop (at + 1) p ++ rest) → AreFrom (drop at p ++ rest)
  hit_from [] at rest h e k = absurd (omega (arith, h))
  hit_from (f ∷ fs) at rest h e k =
      subst (λ l. AreFrom (l ++ rest)) (sym (drop_more (f ∷ fs) at f h)) (ap is_gt (e f), above_from (drop (at + 1) (f ∷ fs) ++ rest) k)

  pub place_after : (ps : List (List (K × X))) (j : ℕ) (r : Result ℕ ℕ) → IsPlaceOf cmp key ps j r → AreFrom (entries_after ps j (at_of r))
  place_after ps j (Ok at) w = hit_from (get_or ps j []) at (joined (drop (j + 1) ps)) w.inside w.equal w.after
  place_after ps j (Err at) w = above_from (entries_after ps j at) w.after

  pub found_before : (p : List (K × X)) (r : Result ℕ ℕ) → Ascend cmp p → IsFound cmp key p r → AreBelow cmp key (take (at_of r) p)
  found_before p (Ok at) s f = hit_below cmp o key p at s f
  found_before p (Err at) s f = gap_below cmp o key p at s f

  pub found_after : (p : List (K × X)) (r : Result ℕ ℕ) → Ascend cmp p → IsFound cmp key p r → AreFrom (drop (at_of r) p)
  found_after p (Ok at) s f =
      subst AreFrom (append-nil (drop at p))
      (hit_from p at [] f.inside f.equal (subst (AreAbove cmp key) (sym (append-nil (drop (at + 1) p))) (hit_above cmp o key p at s f)))
  found_after p (Err at) s f = above_from (drop at p) (gap_above cmp o key p at s f)

  pub found_fits : (p : List (K × X)) (r : Result ℕ ℕ) → IsFound cmp key p r → at_of r ≤ length p
  found_fits p (Ok at) f = omega (arith, f.inside)
  found_fits p (Err at) f = f.inside

  -- by a start
  pub not_from : (es : List (K × X)) → AreBelow cmp key es → AllByRecursion (λ e. is_from cmp (Some key) e.0 ≡ false) es
  not_from es h = all_mapped (λ e. cmp key e.0 ≡ Greater) (λ e. is_from cmp (Some key) e.0 ≡ false) (λ e f. ap is_le f) es h

  pub are_from : (es : List (K × X)) → AreFrom es → AllByRecursion (λ e. is_from cmp (Some key) e.0 ≡ true) es
  are_from es h = all_mapped (λ e. is_gt (cmp key e.0) ≡ false) (λ e. is_from cmp (Some key) e.0 ≡ true) (λ e f. le_by (cmp key e.0) f) es h

  -- by an end
  pub are_before : (es : List (K × X)) → AreBelow cmp key es → AllByRecursion (λ e. is_before cmp (Some key) e.0 ≡ true) es
  are_before es h = all_mapped (λ e. cmp key e.0 ≡ Greater) (λ e. is_before cmp (Some key) e.0 ≡ true)
      (λ e f. ap is_lt (o.antisymm e.0 key ∙ ap ordering_reverse f)) es h

  pub not_before : (es : List (K × X)) → AreFrom es → AllByRecursion (λ e. is_before cmp (Some key) e.0 ≡ false) es
  not_before es h = all_mapped (λ e. is_gt (cmp key e.0) ≡ false) (λ e. is_before cmp (Some key) e.0 ≡ false)
      (λ e f. ap is_lt (o.antisymm e.0 key) ∙ lt_by (cmp key e.0) f) es h

  -- the entries from a start on
  pub from_place : (ps : List (List (K × X))) (j : ℕ) (r : Result ℕ ℕ) → IsPlaceOf cmp key ps j r → j < length ps →
      entries_after ps j (at_of r) ≡ filter (λ e. is_from cmp (Some key) e.0) (joined ps)
  from_place ps j r w h =
      sym (ap (filter (λ e. is_from cmp (Some key) e.0)) (joined_gap ps j (at_of r) h)
      ∙ keep_later (λ e. is_from cmp (Some key) e.0) (entries_before ps j (at_of r)) (entries_after ps j (at_of r)) (not_from _ (place_before ps j r w))
      (are_from _ (place_after ps j r w)))

  -- those before an end
  pub before_place : (ps : List (List (K × X))) (j : ℕ) (r : Result ℕ ℕ) → IsPlaceOf cmp key ps j r → j < length ps →
      filter (λ e. is_before cmp (Some key) e.0) (joined ps) ≡ entries_before ps j (at_of r)
  before_place ps j r w h =
      ap (filter (λ e. is_before cmp (Some key) e.0)) (joined_gap ps j (at_of r) h)
      ∙ keep_earlier (λ e. is_before cmp (Some key) e.0) (entries_before ps j (at_of r)) (entries_after ps j (at_of r)) (are_before _ (place_before ps j r w))
      (not_before _ (place_after ps j r w))

  pub before_found : (p : List (K × X)) (r : Result ℕ ℕ) → Ascend cmp p → IsFound cmp key p r → filter (λ e. is_before cmp (Some key) e.0) p ≡ take (at_of r) p
  before_found p r s f =
      ap (filter (λ e. is_before cmp (Some key) e.0)) (sym (take-append-drop (at_of r) p))
      ∙ keep_earlier (λ e. is_before cmp (Some key) e.0) (take (at_of r) p) (drop (at_of r) p) (are_before _ (found_before p r s f))
      (not_before _ (found_after p r s f))
