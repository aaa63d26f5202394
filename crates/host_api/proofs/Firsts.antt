-- The first entries of a range are what an item of a payload may hold.
use Rattle.std.proofs.Common.{◌≡◌, ℕ, zero, suc, ◌≤◌, Bool, true, false, cond, T, ◌&&◌, List, [], ◌∷◌, map, take, length, refl, ap, arith}
use Rattle.std.proofs.lemmas.List.{length-map}
use Rattle.std.specs.List.{list_all}
use Rattle.std.specs.FinMap.{entries, entries_sorted, is_sorted}
use Rattle.std.specs.FinMap.Entries.{below_all}
use Rattle.fab_types.specs.Order.{key_cmp, is_before, are_ascending, is_within}
use Rattle.fab_types.specs.Sets.{IsRange, entry_keys}
use Rattle.fab_types.specs.declared.items.RangeEntry.{RangeEntry}
use Rattle.ledger_model.specs.Chain.{Bytes, Version}
use Rattle.ledger_model.specs.Views.{Versioned, entries_within}
use Rattle.ledger_model.specs.Flags.{entry_of, entries_at}
use Rattle.ledger_model.proofs.Sorted.{both, and_first, and_second, sorted_filter}

abbrev Entry : Type 0
Entry = Bytes × (Bytes × Version)

is_true : (b : Bool) → T b → b ≡ true
is_true true h = refl
is_true false h = absurd h

join : (a b : Bool) → a ≡ true → b ≡ true → (a && b) ≡ true
join true b e f = f
join false b e f = cc

below-take : (n : ℕ) (k : Bytes) (es : List Entry) → T (below_all key_cmp k es) → T (below_all key_cmp k (take n es))
below-take zero k es h = tt
below-take (suc n) k [] h = tt
below-take (suc n) k (e ∷ es) h = both _ _ (and_first _ _ h) (below-take n k es (and_second _ _ h))

sorted-take : (n : ℕ) (es : List Entry) → T (is_sorted key_cmp es) → T (is_sorted key_cmp (take n es))
sorted-take zero es h = tt
sorted-take (suc n) [] h = tt
sorted-take (suc n) (e ∷ es) h =
    both _ _ (below-take n e.0 es (and_first _ _ h)) (sorted-take n es (and_second _ _ h))

ascends : (es : List Entry) → T (is_sorted key_cmp es) → are_ascending (entry_keys (map entry_of es)) ≡ true
ascends [] h = refl
ascends (e ∷ []) h = refl
ascends (e ∷ d ∷ es) h =
    join (is_before e.0 d.0) _ (is_true _ (and_first _ _ (and_first _ _ h))) (ascends (d ∷ es) (and_second _ _ h))

length-first : (n : ℕ) (es : List Entry) → length (map entry_of (take n es)) ≤ n
length-first zero es = omega arith
length-first (suc n) [] = omega arith
length-first (suc n) (e ∷ es) = let i = length-first n es in omega (arith, i)

-- what is made of each item is the first entries
pub few_first : {A : Type 0} (f : A → Entry) (xs : List A) (n : ℕ) (es : List Entry) → map f xs ≡ take n es → length xs ≤ n
few_first f xs n es e = omega (arith, length-map xs f, length-map (take n es) entry_of, ap (λ (es : List Entry). length es) e, length-first n es)

held-filter : (start end : Bytes) (n : ℕ) (es : List Entry) →
    list_all (λ (e : RangeEntry). is_within start end e.key) (map entry_of (take n (entries_within start end es))) ≡ true
held-filter start end zero es = refl
held-filter start end (suc n) [] = refl
held-filter start end (suc n) (e ∷ es) =
    elim (is_within start end e.0)
    as (λ b. is_within start end e.0 ≡ b →
    list_all (λ (e : RangeEntry). is_within start end e.key)
    (map entry_of (take (suc n) (cond b (e ∷ entries_within start end es) (entries_within start end es)))) ≡ true) [
      | true ↦ λ is. join (is_within start end e.0) _ is (held-filter start end n es)
      | false ↦ λ _. held-filter start end (suc n) es
    ] refl

pub is_range : (m : Versioned) (start end : Bytes) (n : ℕ) → 1 ≤ n → n ≤ 64 →
    IsRange (record { start = start; end = end; limit = n; entries = entries_at m start end n })
is_range m start end n lo hi = record {
  least = lo;
  greatest = hi;
  count = length-first n (entries_within start end (entries m));
  order = ascends (take n (entries_within start end (entries m)))
      (sorted-take n _ (sorted_filter (λ (e : Entry). is_within start end e.0) (entries m) (entries_sorted m)));
  held = held-filter start end n (entries m);
}
