-- A search that halves items in key order finds how many come before a key.
use Rattle.std.proofs.Common.{◌≡◌, ℕ, zero, suc, ◌<◌, ◌≤◌, Bool, true, false, ◌&&◌, List, [], ◌∷◌, length, map, get_or, refl, sym, ap, arith}
use Rattle.std.specs.List.Sorted.{IsPartitionedBy, IsPartitionPoint}
use Rattle.std.specs.Ordering.{is_lt}
use Rattle.std.specs.declared.cmp.Ordering.{Ordering}
use Rattle.std.specs.declared.cmp.Ordering.TheVariants.{Less, Equal, Greater}
use Rattle.std.specs.Cmp.Lexicographic.{nat_list_cmp_total}
use Rattle.std.proofs.lemmas.List.Sums.{prefix_len_is}
use Rattle.fab_types.specs.Order.{key_cmp, is_before, are_ascending}
use Rattle.ledger_model.specs.Chain.{Bytes}
use Rattle.host_api.specs.Places.{place_of}

is_less : (o : Ordering) → is_lt o ≡ true → o ≡ Less
is_less Less e = refl
is_less Equal e = cc
is_less Greater e = cc

both : (a b : Bool) → (a && b) ≡ true → (a ≡ true) × (b ≡ true)
both true b e = (refl, e)
both false b e = cc

before_both : (a b key : Bytes) → is_before a b ≡ true → is_before b key ≡ true → is_before a key ≡ true
before_both a b key f g = ap is_lt (nat_list_cmp_total.trans a b key (is_less (key_cmp a b) f) (is_less (key_cmp b key) g))

module _ {X : Type 0} (key_of : X → Bytes) (key : Bytes) where
  abbrev comes_before : X → Bool
  comes_before x = is_before (key_of x) key

  -- a first item comes before the key if any does
  first_before : (x : X) (xs : List X) → are_ascending (map key_of (x ∷ xs)) ≡ true → (j : ℕ) (d : X) → j < length (x ∷ xs) →
      comes_before (get_or (x ∷ xs) j d) ≡ true → comes_before x ≡ true
  first_before x xs h zero d k e = e
  first_before x [] h (suc j) d k e = absurd (omega arith)
  first_before x (y ∷ ys) h (suc j) d k e =
      let parts = both (is_before (key_of x) (key_of y)) (are_ascending (map key_of (y ∷ ys))) h in
      before_both (key_of x) (key_of y) key parts.0 (first_before y ys parts.1 j d (omega arith) e)

  rest_ascend : (x : X) (xs : List X) → are_ascending (map key_of (x ∷ xs)) ≡ true → are_ascending (map key_of xs) ≡ true
  rest_ascend x [] h = refl
  rest_ascend x (y ∷ ys) h = (both (is_before (key_of x) (key_of y)) (are_ascending (map key_of (y ∷ ys))) h).1

  pub parted : (xs : List X) → are_ascending (map key_of xs) ≡ true → IsPartitionedBy comes_before xs
  parted [] h i j d le lt e = absurd (omega arith)
  parted (x ∷ xs) h zero j d le lt e = first_before x xs h j d lt e
  parted (x ∷ xs) h (suc i) zero d le lt e = absurd (omega arith)
  parted (x ∷ xs) h (suc i) (suc j) d le lt e = parted xs (rest_ascend x xs h) i j d (omega arith) (omega arith) e

  pub place_is : (xs : List X) (n : ℕ) → n ≤ length xs → IsPartitionPoint (λ x. comes_before x ≡ true) (λ x. comes_before x ≡ false) xs n →
      n ≡ place_of key_of key xs
  place_is [] n h p = omega arith
  place_is (x ∷ xs) n h p =
      sym (prefix_len_is comes_before (x ∷ xs) n x h (λ k lt. p.0 k x (omega arith) lt) (λ lt. p.1 n x (omega arith) lt))
