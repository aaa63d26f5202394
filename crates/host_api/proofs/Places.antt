-- An item takes its place among items in key order: it replaces the item of its key, or stands before the first greater key.
use Rattle.std.proofs.Common.{◌≡◌, ℕ, zero, suc, ◌+◌, ◌<◌, ◌≤◌, Bool, true, false, cond, ◌&&◌, List, [], ◌∷◌, length, map, Option, Some, Result, Ok, Err}
use Rattle.std.proofs.Common.{refl, sym, ap, ◌∙◌, subst, arith, is_eq, length-set}
use Rattle.std.specs.Prelude.{slice_get, slice_set}
use Rattle.std.specs.List.{insert, list_all}
use Rattle.std.specs.Ordering.{is_lt, ordering_reverse}
use Rattle.std.specs.declared.cmp.Ordering.{Ordering}
use Rattle.std.specs.declared.cmp.Ordering.TheVariants.{Less, Equal, Greater}
use Rattle.std.specs.Cmp.Lexicographic.{nat_list_cmp_total}
use Rattle.std.proofs.lemmas.List.Sums.{prefix_len-le-length}
use Rattle.std.proofs.lemmas.List.Edits.{length-insert}
use Rattle.fab_types.specs.Order.{key_cmp, is_before, are_ascending}
use Rattle.ledger_model.specs.Chain.{Bytes}
use Rattle.ledger_model.proofs.Keys.{tie_same}
use Rattle.host_api.specs.HostStep.{with_item, with_key}
use Rattle.host_api.specs.Places.{place_of, has_key, found_at}

-- the items from y on once x is among them, by how y's key compares with x's
abbrev joined : {X : Type 0} → Ordering → (x y : X) → (ys rest : List X) → List X
joined o x y ys rest = cond (is_lt o) (y ∷ rest) (cond (is_eq o) (x ∷ ys) (x ∷ y ∷ ys))

map-joined : {X Y : Type 0} (f : X → Y) (o : Ordering) (x y : X) (ys rest : List X) →
    map f (joined o x y ys rest) ≡ joined o (f x) (f y) (map f ys) (map f rest)
map-joined f Less x y ys rest = refl
map-joined f Equal x y ys rest = refl
map-joined f Greater x y ys rest = refl

-- what keeps the keys keeps the places
pub map-with_item : {X Y : Type 0} (f : X → Y) (key : X → Bytes) (key' : Y → Bytes) → ((x : X) → key' (f x) ≡ key x) → (x : X) (xs : List X) →
    map f (with_item key x xs) ≡ with_item key' (f x) (map f xs)
map-with_item f key key' e x [] = refl
map-with_item f key key' e x (y ∷ ys) =
    map-joined f (key_cmp (key y) (key x)) x y ys (with_item key x ys)
    ∙ ap (joined (key_cmp (key y) (key x)) (f x) (f y) (map f ys)) (map-with_item f key key' e x ys)
    ∙ (λ i. joined (key_cmp (sym (e y) i) (sym (e x) i)) (f x) (f y) (map f ys) (with_item key' (f x) (map f ys)))

told_ok : (b : Bool) (n at : ℕ) → Ok at ≡ cond b (Ok n) (Err n) → (b ≡ true) × (at ≡ n)
told_ok true n at e = (refl, cc)
told_ok false n at e = cc

told_err : (b : Bool) (n at : ℕ) → Err at ≡ cond b (Ok n) (Err n) → (b ≡ false) × (at ≡ n)
told_err true n at e = cc
told_err false n at e = (refl, cc)

both : (a b : Bool) → (a && b) ≡ true → (a ≡ true) × (b ≡ true)
both true b e = (refl, e)
both false b e = cc

join : (a b : Bool) → a ≡ true → b ≡ true → (a && b) ≡ true
join true b e f = f
join false b e f = cc

module _ {X : Type 0} (key_of : X → Bytes) where
  abbrev place : Ordering → Bytes → List X → ℕ
  place o key xs = cond (is_lt o) (1 + place_of key_of key xs) 0

  abbrev Set : X → X → List X → Ordering → Type 0
  Set w x xs o = has_key key_of (key_of w) (slice_get (x ∷ xs) (place o (key_of w) xs)) ≡ true →
      slice_set (x ∷ xs) (place o (key_of w) xs) w ≡ joined o w x xs (with_item key_of w xs)

  set_is : (w : X) (xs : List X) → has_key key_of (key_of w) (slice_get xs (place_of key_of (key_of w) xs)) ≡ true →
      slice_set xs (place_of key_of (key_of w) xs) w ≡ with_item key_of w xs
  set_is w [] h = cc
  set_is w (x ∷ xs) h =
      elim (key_cmp (key_of x) (key_of w)) as (λ o. key_cmp (key_of x) (key_of w) ≡ o → Set w x xs o) [
        | Less ↦ λ e h. let n : 1 + place_of key_of (key_of w) xs ≡ suc (place_of key_of (key_of w) xs) =
            omega arith in ap (λ k. slice_set (x ∷ xs) k w) n ∙ ap (λ z. x ∷ z) (set_is w xs (rw n at h))
        | Equal ↦ λ e h. refl
        | Greater ↦ λ e h. cc (ap is_eq e)
      ] refl h

  abbrev Inserted : X → X → List X → Ordering → Type 0
  Inserted w x xs o = has_key key_of (key_of w) (slice_get (x ∷ xs) (place o (key_of w) xs)) ≡ false →
      insert (x ∷ xs) (place o (key_of w) xs) w ≡ joined o w x xs (with_item key_of w xs)

  insert_is : (w : X) (xs : List X) → has_key key_of (key_of w) (slice_get xs (place_of key_of (key_of w) xs)) ≡ false →
      insert xs (place_of key_of (key_of w) xs) w ≡ with_item key_of w xs
  insert_is w [] h = refl
  insert_is w (x ∷ xs) h =
      elim (key_cmp (key_of x) (key_of w)) as (λ o. key_cmp (key_of x) (key_of w) ≡ o → Inserted w x xs o) [
        | Less ↦ λ e h. let n : 1 + place_of key_of (key_of w) xs ≡ suc (place_of key_of (key_of w) xs) =
            omega arith in ap (λ k. insert (x ∷ xs) k w) n ∙ ap (λ z. x ∷ z) (insert_is w xs (rw n at h))
        | Equal ↦ λ e h. cc (ap is_eq e)
        | Greater ↦ λ e h. refl
      ] refl h

  abbrev Kept : Bytes → X → List X → Ordering → Type 0
  Kept key x xs o = has_key key_of key (slice_get (x ∷ xs) (place o key xs)) ≡ true →
      joined o key (key_of x) (map key_of xs) (with_key key (map key_of xs)) ≡ key_of x ∷ map key_of xs

  -- a key that is there is there once
  keys_is : (key : Bytes) (xs : List X) → has_key key_of key (slice_get xs (place_of key_of key xs)) ≡ true → with_key key (map key_of xs) ≡ map key_of xs
  keys_is key [] h = cc
  keys_is key (x ∷ xs) h =
      elim (key_cmp (key_of x) key) as (λ o. key_cmp (key_of x) key ≡ o → Kept key x xs o) [
        | Less ↦ λ e h. let n : 1 + place_of key_of key xs ≡ suc (place_of key_of key xs) = omega arith in ap (λ z. key_of x ∷ z) (keys_is key xs (rw n at h))
        | Equal ↦ λ e h. ap (λ k. k ∷ map key_of xs) (sym (tie_same (key_of x) key (ap is_eq e)))
        | Greater ↦ λ e h. cc (ap is_eq e)
      ] refl h

  -- a key stands before the first of some items
  abbrev precedes : Bytes → List X → Bool
  precedes key [] = true
  precedes key (x ∷ xs) = is_before key (key_of x)

  abbrev ascend : List X → Bool
  ascend xs = are_ascending (map key_of xs)

  ascend-cons : (x : X) (xs : List X) → ascend (x ∷ xs) ≡ (precedes (key_of x) xs && ascend xs)
  ascend-cons x [] = refl
  ascend-cons x (y ∷ ys) = refl

  precedes_item : (key : Bytes) (w : X) (xs : List X) → precedes key xs ≡ true → is_before key (key_of w) ≡ true → precedes key (with_item key_of w xs) ≡ true
  precedes_item key w [] h k = k
  precedes_item key w (y ∷ ys) h k =
      elim (key_cmp (key_of y) (key_of w)) as (λ o. precedes key (joined o w y ys (with_item key_of w ys)) ≡ true) [ Less ↦ h | Equal ↦ k | Greater ↦ k ]

  precedes_same : (a b : Bytes) (xs : List X) → key_cmp a b ≡ Equal → precedes a xs ≡ true → precedes b xs ≡ true
  precedes_same a b [] e h = h
  precedes_same a b (y ∷ ys) e h = ap is_lt (sym (nat_list_cmp_total.congr a b (key_of y) e)) ∙ h

  pub ascend_item : (w : X) (xs : List X) → ascend xs ≡ true → ascend (with_item key_of w xs) ≡ true
  ascend_item w [] h = refl
  ascend_item w (x ∷ xs) h =
      elim (key_cmp (key_of x) (key_of w)) as (λ o. key_cmp (key_of x) (key_of w) ≡ o → ascend (joined o w x xs (with_item key_of w xs)) ≡ true) [
        | Less ↦ λ e. ascend-cons x (with_item key_of w xs) ∙ join _ _ (precedes_item (key_of x) w xs parts.0 (ap is_lt e)) (ascend_item w xs parts.1)
        | Equal ↦ λ e. ascend-cons w xs ∙ join _ _ (precedes_same (key_of x) (key_of w) xs e parts.0) parts.1
        | Greater ↦ λ e. join _ _ (ap is_lt (nat_list_cmp_total.antisymm (key_of w) (key_of x) ∙ ap ordering_reverse e)) h
      ] refl
    where
      parts : (precedes (key_of x) xs ≡ true) × (ascend xs ≡ true)
      parts = both (precedes (key_of x) xs) (ascend xs) (sym (ascend-cons x xs) ∙ h)

  below : (n : ℕ) (key : Bytes) (xs : List X) → has_key key_of key (slice_get xs n) ≡ true → n < length xs
  below n key [] h = cc
  below zero key (x ∷ xs) h = omega arith
  below (suc n) key (x ∷ xs) h = let i = below n key xs h in omega (arith, i)

  same_at : (key : Bytes) (o : Option X) (x : X) → o ≡ Some x → has_key key_of key o ≡ true → key_of x ≡ key
  same_at key o x e h = tie_same (key_of x) key (ap (has_key key_of key) (sym e) ∙ h)

  -- what a search that finds the key tells
  pub record IsFound (key : Bytes) (xs : List X) (at : ℕ) : Type 0 where
    pub within : at < length xs
    pub set : (x : X) → key_of x ≡ key → slice_set xs at x ≡ with_item key_of x xs
    pub same : (x : X) → slice_get xs at ≡ Some x → key_of x ≡ key
    pub keys : with_key key (map key_of xs) ≡ map key_of xs

  pub is_found : (key : Bytes) (xs : List X) (at : ℕ) → Ok at ≡ found_at key_of key xs → IsFound key xs at
  is_found key xs at e =
      let n = place_of key_of key xs in
      let t = told_ok (has_key key_of key (slice_get xs n)) n at e in
      record {
        within = subst (λ k. k < length xs) (sym t.1) (below n key xs t.0);
        set = λ x same. ap (λ k. slice_set xs k x) (t.1 ∙ ap (λ k. place_of key_of k xs) (sym same)) ∙
            set_is x xs (subst (λ k. has_key key_of k (slice_get xs (place_of key_of k xs)) ≡ true) (sym same) t.0);
        same = λ x is. same_at key (slice_get xs n) x (ap (slice_get xs) (sym t.1) ∙ is) t.0;
        keys = keys_is key xs t.0;
      }

  -- and one that does not
  pub record IsGap (key : Bytes) (xs : List X) (at : ℕ) : Type 0 where
    pub within : at ≤ length xs
    pub put : (x : X) → key_of x ≡ key → insert xs at x ≡ with_item key_of x xs

  pub is_gap : (key : Bytes) (xs : List X) (at : ℕ) → Err at ≡ found_at key_of key xs → IsGap key xs at
  is_gap key xs at e =
      let n = place_of key_of key xs in
      let t = told_err (has_key key_of key (slice_get xs n)) n at e in
      record {
        within = omega (arith, t.1, prefix_len-le-length (λ (x : X). is_before (key_of x) key) xs);
        put = λ x same. ap (λ k. insert xs k x) (t.1 ∙ ap (λ k. place_of key_of k xs) (sym same)) ∙
            insert_is x xs (subst (λ k. has_key key_of k (slice_get xs (place_of key_of k xs)) ≡ false) (sym same) t.0);
      }

  pub grown : (key : Bytes) (xs : List X) (at : ℕ) → IsGap key xs at → (x : X) → key_of x ≡ key → length (with_item key_of x xs) ≡ length xs + 1
  grown key xs at gap x same = ap length (sym (gap.put x same)) ∙ length-insert xs at x gap.within

  pub replaced : (key : Bytes) (xs : List X) (at : ℕ) → IsFound key xs at → (x : X) → key_of x ≡ key → length (with_item key_of x xs) ≡ length xs
  replaced key xs at found x same = ap length (sym (found.set x same)) ∙ length-set xs at x

-- what holds of an item and of the others holds of all
pub all_with_item : {X : Type 0} (key_of : X → Bytes) (test : X → Bool) (x : X) (xs : List X) → test x ≡ true → list_all test xs ≡ true →
    list_all test (with_item key_of x xs) ≡ true
all_with_item key_of test x [] h all = join (test x) true h refl
all_with_item key_of test x (y ∷ ys) h all =
    let parts = both (test y) (list_all test ys) all in
    elim (key_cmp (key_of y) (key_of x)) as (λ o. list_all test (joined o x y ys (with_item key_of x ys)) ≡ true) [
      | Less ↦ join _ _ parts.0 (all_with_item key_of test x ys h parts.1)
      | Equal ↦ join _ _ h parts.1
      | Greater ↦ join _ _ h all
    ]

-- the item at the place where one with the key would stand has this key, or another
module _ {X : Type 0} (key_of : X → Bytes) (key : Bytes) (xs : List X) (n : ℕ) (x : X) (at : n ≡ place_of key_of key xs) (there : slice_get xs n ≡ Some x) where
  abbrev found : Bool → ℕ → Result ℕ ℕ
  found b k = cond b (Ok k) (Err k)

  found_by : (b : Bool) → b ≡ is_eq (key_cmp (key_of x) key) → found b n ≡ found_at key_of key xs
  found_by b is =
      ap (λ c. found c n) (is ∙ ap (has_key key_of key) (sym there)) ∙ ap (λ k. found (has_key key_of key (slice_get xs k)) k) at

  pub found_there : true ≡ is_eq (key_cmp (key_of x) key) → Ok n ≡ found_at key_of key xs
  found_there is = found_by true is

  pub found_other : false ≡ is_eq (key_cmp (key_of x) key) → Err n ≡ found_at key_of key xs
  found_other is = found_by false is
