-- Entries in key order, on the two sides of a key.
use Rattle.std.proofs.Common.{◌≡◌, ℕ, zero, suc, ◌+◌, ◌-◌, ◌<◌, true, false, List, [], ◌∷◌, ◌++◌, length, take, drop, get_or, refl, sym, ap, ◌∙◌, subst, arith}
use Rattle.std.proofs.Common.{true≢false, Some, None, cond}
use Rattle.std.proofs.lemmas.List.{drop_more, take_more, take-append-drop, length-drop, get_or-drop}
use Rattle.std.specs.Ordering.{is_lt, is_gt, is_eq, ordering_reverse, match_ordering}
use Rattle.std.specs.Cmp.{IsTotalOrder}
use Rattle.std.specs.declared.cmp.Ordering.{Ordering}
use Rattle.std.specs.declared.cmp.Ordering.TheVariants.{Less, Equal, Greater}
use Rattle.std.specs.List.{AllByRecursion}
use Rattle.std.specs.List.Sorted.{IsStrictlySortedBy}
use Rattle.std.specs.Map.{keys_of}
use Rattle.persist_map.specs.Entries.{get, put, without}
use Rattle.persist_map.specs.Search.{AreBelow, AreAbove, IsGap}

pub all_append : {X : Type 0} (P : X → Type 0) (xs ys : List X) → AllByRecursion P xs → AllByRecursion P ys → AllByRecursion P (xs ++ ys)
all_append P [] ys h k = k
all_append P (x ∷ xs) ys h k = (h.0, all_append P xs ys h.1 k)

pub all_left : {X : Type 0} (P : X → Type 0) (xs ys : List X) → AllByRecursion P (xs ++ ys) → AllByRecursion P xs
all_left P [] ys h = tt
all_left P (x ∷ xs) ys h = (h.0, all_left P xs ys h.1)

pub all_right : {X : Type 0} (P : X → Type 0) (xs ys : List X) → AllByRecursion P (xs ++ ys) → AllByRecursion P ys
all_right P [] ys h = h
all_right P (x ∷ xs) ys h = all_right P xs ys h.1

pub all_mapped : {X : Type 0} (P Q : X → Type 0) → ((x : X) → P x → Q x) → (xs : List X) → AllByRecursion P xs → AllByRecursion Q xs
all_mapped P Q f [] h = tt
all_mapped P Q f (x ∷ xs) h = (f x h.0, all_mapped P Q f xs h.1)

pub split_at : {X : Type 0} (xs : List X) (n : ℕ) (d : X) → n < length xs → xs ≡ take n xs ++ get_or xs n d ∷ drop (n + 1) xs
split_at xs n d h = sym (take-append-drop n xs) ∙ ap (λ ys. take n xs ++ ys) (drop_more xs n d h)

pub less_from : (r : Ordering) → is_lt r ≡ true → r ≡ Less
less_from Less h = refl
less_from Equal h = absurd (true≢false (sym h))
less_from Greater h = absurd (true≢false (sym h))

by_order : {Y : Type 0} (r s : Ordering) (a b c : Y) → r ≡ s → match_ordering r a b c ≡ match_ordering s a b c
by_order r s a b c e = ap (λ t. match_ordering t a b c) e

pub ascend_nil : {K : Type 0} (cmp : K → K → Ordering) → IsStrictlySortedBy cmp []
unfolding IsStrictlySortedBy
ascend_nil cmp = tt

-- by how a key compares to one beside
module _ {K : Type 0} (cmp : K → K → Ordering) (o : IsTotalOrder cmp) (key : K) where
  above_by : (r : Ordering) (e x : K) → cmp key e ≡ r → is_lt r ≡ false → cmp x e ≡ Less → cmp key x ≡ Greater
  above_by Less e x f n h = absurd (true≢false n)
  above_by Equal e x f n h = o.congr key e x f ∙ o.antisymm e x ∙ ap ordering_reverse h
  above_by Greater e x f n h = o.antisymm key x ∙ ap ordering_reverse (o.trans x e key h (o.antisymm e key ∙ ap ordering_reverse f))

  below_by : (r : Ordering) (e y : K) → cmp key e ≡ r → is_gt r ≡ false → cmp e y ≡ Less → cmp key y ≡ Less
  below_by Less e y f n h = o.trans key e y f h
  below_by Equal e y f n h = o.congr key e y f ∙ h
  below_by Greater e y f n h = absurd (true≢false n)

module _ {K X : Type 0} (cmp : K → K → Ordering) where
  -- the keys of entries ascend
  abbrev pub Ascend : List (K × X) → Type 0
  Ascend es = IsStrictlySortedBy cmp (keys_of es)

  keys_all : (P : K → Type 0) (es : List (K × X)) → AllByRecursion P (keys_of es) → AllByRecursion (λ e. P e.0) es
  keys_all P [] h = tt
  keys_all P (e ∷ es) h = (h.0, keys_all P es h.1)

  all_keys : (P : K → Type 0) (es : List (K × X)) → AllByRecursion (λ e. P e.0) es → AllByRecursion P (keys_of es)
  all_keys P [] h = tt
  all_keys P (e ∷ es) h = (h.0, all_keys P es h.1)

  pub ascend_cons : (e : K × X) (es : List (K × X)) → AllByRecursion (λ f. cmp e.0 f.0 ≡ Less) es → Ascend es → Ascend (e ∷ es)
  unfolding IsStrictlySortedBy
  ascend_cons e es h k = (all_keys (λ q. cmp e.0 q ≡ Less) es h, k)

  pub ascend_head : (e : K × X) (es : List (K × X)) → Ascend (e ∷ es) → AllByRecursion (λ f. cmp e.0 f.0 ≡ Less) es
  unfolding IsStrictlySortedBy
  ascend_head e es h = keys_all (λ q. cmp e.0 q ≡ Less) es h.0

  pub ascend_tail : (e : K × X) (es : List (K × X)) → Ascend (e ∷ es) → Ascend es
  unfolding IsStrictlySortedBy
  ascend_tail e es h = h.1

  pub ascend_right : (xs ys : List (K × X)) → Ascend (xs ++ ys) → Ascend ys
  ascend_right [] ys h = h
  ascend_right (x ∷ xs) ys h = ascend_right xs ys (ascend_tail x (xs ++ ys) h)

  pub ascend_left : (xs ys : List (K × X)) → Ascend (xs ++ ys) → Ascend xs
  ascend_left [] ys h = ascend_nil cmp
  ascend_left (x ∷ xs) ys h = ascend_cons x xs (all_left _ xs ys (ascend_head x (xs ++ ys) h)) (ascend_left xs ys (ascend_tail x (xs ++ ys) h))

  pub ascend_before : (xs : List (K × X)) (e : K × X) (ys : List (K × X)) → Ascend (xs ++ e ∷ ys) → AllByRecursion (λ x. cmp x.0 e.0 ≡ Less) xs
  ascend_before [] e ys h = tt
  ascend_before (x ∷ xs) e ys h =
      ((all_right (λ f. cmp x.0 f.0 ≡ Less) xs (e ∷ ys) (ascend_head x (xs ++ e ∷ ys) h)).0, ascend_before xs e ys (ascend_tail x (xs ++ e ∷ ys) h))

  pub ascend_after : (xs : List (K × X)) (e : K × X) (ys : List (K × X)) → Ascend (xs ++ e ∷ ys) → AllByRecursion (λ y. cmp e.0 y.0 ≡ Less) ys
  ascend_after xs e ys h = ascend_head e ys (ascend_right xs (e ∷ ys) h)

  -- without the entry in the middle
  pub ascend_without : (xs : List (K × X)) (e : K × X) (ys : List (K × X)) → Ascend (xs ++ e ∷ ys) → Ascend (xs ++ ys)
  ascend_without [] e ys h = ascend_tail e ys h
  ascend_without (x ∷ xs) e ys h =
      let rest = ascend_head x (xs ++ e ∷ ys) h in
      ascend_cons x (xs ++ ys) (all_append _ xs ys (all_left _ xs (e ∷ ys) rest) (all_right _ xs (e ∷ ys) rest).1)
      (ascend_without xs e ys (ascend_tail x (xs ++ e ∷ ys) h))

  module _ (o : IsTotalOrder cmp) (key : K) where
    -- entries before one that is not above the key are below it
    pub all_below : (xs : List (K × X)) (e : K × X) (ys : List (K × X)) → Ascend (xs ++ e ∷ ys) → is_lt (cmp key e.0) ≡ false → AreBelow cmp key xs
    all_below xs e ys h n =
        all_mapped (λ x. cmp x.0 e.0 ≡ Less) (λ x. cmp key x.0 ≡ Greater) (λ x. above_by cmp o key (cmp key e.0) e.0 x.0 refl n) xs (ascend_before xs e ys h)

    -- entries after one that is not below the key are above it
    pub all_above : (xs : List (K × X)) (e : K × X) (ys : List (K × X)) → Ascend (xs ++ e ∷ ys) → is_gt (cmp key e.0) ≡ false → AreAbove cmp key ys
    all_above xs e ys h n =
        all_mapped (λ y. cmp e.0 y.0 ≡ Less) (λ y. cmp key y.0 ≡ Less) (λ y. below_by cmp o key (cmp key e.0) e.0 y.0 refl n) ys (ascend_after xs e ys h)

    at_split : (es : List (K × X)) (n : ℕ) (d : K × X) → n < length es → Ascend es → Ascend (take n es ++ get_or es n d ∷ drop (n + 1) es)
    at_split es n d h k = subst Ascend (split_at es n d h) k

    pub below_place : (es : List (K × X)) (n : ℕ) (d : K × X) → n < length es → Ascend es → is_lt (cmp key (get_or es n d).0) ≡ false →
        AreBelow cmp key (take n es)
    below_place es n d h k e = all_below (take n es) (get_or es n d) (drop (n + 1) es) (at_split es n d h k) e

    pub above_place : (es : List (K × X)) (n : ℕ) (d : K × X) → n < length es → Ascend es → is_gt (cmp key (get_or es n d).0) ≡ false →
        AreAbove cmp key (drop (n + 1) es)
    above_place es n d h k e = all_above (take n es) (get_or es n d) (drop (n + 1) es) (at_split es n d h k) e

    -- on both sides of a gap
    below_gap : (es : List (K × X)) (at n : ℕ) (d : K × X) → at ≡ n + 1 → Ascend es → IsGap cmp key es at → AreBelow cmp key (take at es)
    below_gap es at n d e k g =
        let inside : n < length es = omega (arith, g.inside) in
        let back : at - 1 ≡ n = omega arith in
        let last : cmp key (get_or es n d).0 ≡ Greater = sym (ap (λ m. cmp key (get_or es m d).0) back) ∙ g.last d (omega arith) in
        subst (λ m. AreBelow cmp key (take m es)) (sym e)
        (subst (AreBelow cmp key) (sym (take_more es n d inside))
        (all_append (λ f. cmp key f.0 ≡ Greater) (take n es) (get_or es n d ∷ []) (below_place es n d inside k (ap is_lt last)) (last, tt)))

    pub gap_below : (es : List (K × X)) (at : ℕ) → Ascend es → IsGap cmp key es at → AreBelow cmp key (take at es)
    gap_below es zero k g = tt
    gap_below [] (suc n) k g = tt
    gap_below (e ∷ es) (suc n) k g = below_gap (e ∷ es) (suc n) n e (omega arith) k g

    above_gap : (es : List (K × X)) (at : ℕ) (fs : List (K × X)) → drop at es ≡ fs → Ascend fs → IsGap cmp key es at → AreAbove cmp key fs
    above_gap es at [] e k g = tt
    above_gap es at (f ∷ fs) e k g =
        let inside : at < length es = omega (arith, length-drop at es, ap length e) in
        let here : get_or es at f ≡ f = ap (λ m. get_or es m f) (omega arith) ∙ sym (get_or-drop at es 0 f) ∙ ap (λ l. get_or l 0 f) e in
        let less : cmp key f.0 ≡ Less = sym (ap (λ x. cmp key x.0) here) ∙ g.next f inside in
        (less, all_above [] f fs k (ap is_gt less))

    pub gap_above : (es : List (K × X)) (at : ℕ) → Ascend es → IsGap cmp key es at → AreAbove cmp key (drop at es)
    gap_above es at k g = above_gap es at (drop at es) refl (ascend_right (take at es) (drop at es) (subst Ascend (sym (take-append-drop at es)) k)) g

  module _ (key : K) where
    pub get_hit : (xs : List (K × X)) (e : K × X) (ys : List (K × X)) → AreBelow cmp key xs → cmp key e.0 ≡ Equal → get cmp (xs ++ e ∷ ys) key ≡ Some e.1
    get_hit [] e ys h k = ap (λ r. cond (is_eq r) (Some e.1) (get cmp ys key)) k
    get_hit (x ∷ xs) e ys h k = ap (λ r. cond (is_eq r) (Some x.1) (get cmp (xs ++ e ∷ ys) key)) h.0 ∙ get_hit xs e ys h.1 k

    pub get_above : (ys : List (K × X)) → AreAbove cmp key ys → get cmp ys key ≡ None
    get_above [] h = refl
    get_above (y ∷ ys) h = ap (λ r. cond (is_eq r) (Some y.1) (get cmp ys key)) h.0 ∙ get_above ys h.1

    pub get_gap : (xs ys : List (K × X)) → AreBelow cmp key xs → AreAbove cmp key ys → get cmp (xs ++ ys) key ≡ None
    get_gap [] ys h k = get_above ys k
    get_gap (x ∷ xs) ys h k = ap (λ r. cond (is_eq r) (Some x.1) (get cmp (xs ++ ys) key)) h.0 ∙ get_gap xs ys h.1 k

    pub put_hit : (xs : List (K × X)) (e : K × X) (ys : List (K × X)) (v : X) → AreBelow cmp key xs → cmp key e.0 ≡ Equal →
        put cmp (xs ++ e ∷ ys) key v ≡ xs ++ (key, v) ∷ ys
    put_hit [] e ys v h k = by_order (cmp key e.0) Equal _ _ _ k
    put_hit (x ∷ xs) e ys v h k = by_order (cmp key x.0) Greater _ _ _ h.0 ∙ ap (λ l. x ∷ l) (put_hit xs e ys v h.1 k)

    put_above : (ys : List (K × X)) (v : X) → AreAbove cmp key ys → put cmp ys key v ≡ (key, v) ∷ ys
    put_above [] v k = refl
    put_above (y ∷ ys) v k = by_order (cmp key y.0) Less _ _ _ k.0

    pub put_gap : (xs ys : List (K × X)) (v : X) → AreBelow cmp key xs → AreAbove cmp key ys → put cmp (xs ++ ys) key v ≡ xs ++ (key, v) ∷ ys
    put_gap [] ys v h k = put_above ys v k
    put_gap (x ∷ xs) ys v h k = by_order (cmp key x.0) Greater _ _ _ h.0 ∙ ap (λ l. x ∷ l) (put_gap xs ys v h.1 k)

    pub without_hit : (xs : List (K × X)) (e : K × X) (ys : List (K × X)) → AreBelow cmp key xs → cmp key e.0 ≡ Equal →
        without cmp (xs ++ e ∷ ys) key ≡ xs ++ ys
    without_hit [] e ys h k = ap (λ r. cond (is_eq r) ys (e ∷ without cmp ys key)) k
    without_hit (x ∷ xs) e ys h k =
        ap (λ r. cond (is_eq r) (xs ++ e ∷ ys) (x ∷ without cmp (xs ++ e ∷ ys) key)) h.0 ∙ ap (λ l. x ∷ l) (without_hit xs e ys h.1 k)

    without_above : (ys : List (K × X)) → AreAbove cmp key ys → without cmp ys key ≡ ys
    without_above [] h = refl
    without_above (y ∷ ys) h = ap (λ r. cond (is_eq r) ys (y ∷ without cmp ys key)) h.0 ∙ ap (λ l. y ∷ l) (without_above ys h.1)

    pub without_gap : (xs ys : List (K × X)) → AreBelow cmp key xs → AreAbove cmp key ys → without cmp (xs ++ ys) key ≡ xs ++ ys
    without_gap [] ys h k = without_above ys k
    without_gap (x ∷ xs) ys h k = ap (λ r. cond (is_eq r) (xs ++ ys) (x ∷ without cmp (xs ++ ys) key)) h.0 ∙ ap (λ l. x ∷ l) (without_gap xs ys h.1 k)

    -- with the key's entry between them
    pub ascend_put : (o : IsTotalOrder cmp) (xs ys : List (K × X)) (v : X) → AreBelow cmp key xs → AreAbove cmp key ys → Ascend (xs ++ ys) →
        Ascend (xs ++ (key, v) ∷ ys)
    ascend_put o [] ys v h k s = ascend_cons (key, v) ys k s
    ascend_put o (x ∷ xs) ys v h k s =
        let rest = ascend_head x (xs ++ ys) s in
        ascend_cons x (xs ++ (key, v) ∷ ys)
        (all_append (λ f. cmp x.0 f.0 ≡ Less) xs ((key, v) ∷ ys) (all_left _ xs ys rest) (o.antisymm x.0 key ∙ ap ordering_reverse h.0, all_right _ xs ys rest))
        (ascend_put o xs ys v h.1 k (ascend_tail x (xs ++ ys) s))
