-- Items of lists, by their places.
use Rattle.std.proofs.Common.{◌≡◌, ◌<◌, ◌≤◌, ◌+◌, ℕ, zero, suc, List, [], ◌∷◌, ◌++◌, refl, sym, ap, ◌∙◌, subst, ◌⊎◌, inl, inr, Some, None, length, take, drop}
use Rattle.std.proofs.Common.{append_assoc, get_or, slice_index_or, replicate, arith}
use Rattle.std.specs.Prelude.{map}
use Rattle.std.specs.List.{All}
use Rattle.std.proofs.lemmas.List.{get_or_default}
use borrow.Author.Count.{below_more}
use Rattle.wasm_typing.specs.Typing.{at}

none_some : {A : Type 0} (a : A) → None ≡ Some a → ⊥
none_some a e = cc

some_same : {A : Type 0} (a b : A) → Some a ≡ Some b → a ≡ b
some_same a b e = cc

-- the item that an index reads, whatever is read past the end
pub index_is : {A : Type 0} (xs : List A) (i : ℕ) (x d : A) → i < length xs → x ≡ slice_index_or xs i x → x ≡ get_or xs i d
index_is xs i x d lt e = e ∙ get_or_default xs i x d lt

pub at_index : {A : Type 0} (xs : List A) (i : ℕ) (x : A) → i < length xs → x ≡ slice_index_or xs i x → at xs i ≡ Some x
at_index [] i x lt e = absurd (omega arith)
at_index (y ∷ xs) zero x lt e = ap Some (sym e)
at_index (y ∷ xs) (suc i) x lt e = at_index xs i x (omega arith) e

-- the item that an index reads, or what stands for one past the end
pub at_get : {A : Type 0} (items xs : List A) (i : ℕ) (d : A) → items ≡ xs → i < length items → at xs i ≡ Some (get_or items i d)
at_get items xs i d same lt = ap (λ xs. at xs i) (sym same) ∙ get_below items i d lt
  where
    get_below : {A : Type 0} (xs : List A) (i : ℕ) (d : A) → i < length xs → at xs i ≡ Some (get_or xs i d)
    get_below [] i d lt = absurd (omega arith)
    get_below (x ∷ xs) zero d lt = refl
    get_below (x ∷ xs) (suc i) d lt = get_below xs i d (omega arith)

pub at_none : {A : Type 0} (xs : List A) (i : ℕ) → length xs ≤ i → at xs i ≡ None
at_none [] i le = refl
at_none (y ∷ xs) zero le = absurd (omega arith)
at_none (y ∷ xs) (suc i) le = at_none xs i (omega arith)

pub at_below : {A : Type 0} (xs : List A) (i : ℕ) (x : A) → at xs i ≡ Some x → i < length xs
at_below [] i x e = absurd (none_some x e)
at_below (y ∷ xs) zero x e = omega arith
at_below (y ∷ xs) (suc i) x e = omega (arith, at_below xs i x e)

-- the item at a place of the second of two lists
pub at_append : {A : Type 0} (xs ys : List A) (i : ℕ) (y : A) → at ys i ≡ Some y → at (xs ++ ys) (length xs + i) ≡ Some y
at_append [] ys i y e = let h : 0 + i ≡ i = omega arith in ap (at ys) h ∙ e
at_append (x ∷ xs) ys i y e =
    let h : suc (length xs) + i ≡ suc (length xs + i) = omega arith in ap (at (x ∷ (xs ++ ys))) h ∙ at_append xs ys i y e

pub at_map : {A B : Type 0} (f : A → B) (xs : List A) (i : ℕ) (x : A) → at xs i ≡ Some x → at (map f xs) i ≡ Some (f x)
at_map f [] i x e = absurd (none_some x e)
at_map f (y ∷ xs) zero x e = ap (λ z. Some (f z)) (some_same y x e)
at_map f (y ∷ xs) (suc i) x e = at_map f xs i x e

-- a place has one item
pub at_unique : {A : Type 0} (xs : List A) (i : ℕ) (x y : A) → at xs i ≡ Some x → at xs i ≡ Some y → x ≡ y
at_unique xs i x y e h = some_same x y (sym e ∙ h)

-- an item of two lists is one of the first or one of the second
pub at_either : {A : Type 0} (xs ys : List A) (k : ℕ) (y : A) → at (xs ++ ys) k ≡ Some y → (at xs k ≡ Some y) ⊎ ((j : ℕ) × (at ys j ≡ Some y))
at_either [] ys k y e = inr (k, e)
at_either (x ∷ xs) ys zero y e = inl e
at_either (x ∷ xs) ys (suc k) y e = at_either xs ys k y e

pub at_map_back : {A B : Type 0} (f : A → B) (xs : List A) (k : ℕ) (y : B) → at (map f xs) k ≡ Some y → (x : A) × (at xs k ≡ Some x) × (f x ≡ y)
at_map_back f [] k y e = absurd (none_some y e)
at_map_back f (x ∷ xs) zero y e = (x, refl, some_same (f x) y e)
at_map_back f (x ∷ xs) (suc k) y e = at_map_back f xs k y e

pub at_take : {A : Type 0} (xs : List A) (n k : ℕ) (y : A) → at (take n xs) k ≡ Some y → (k < n) × (at xs k ≡ Some y)
at_take xs zero k y e = absurd (none_some y e)
at_take [] (suc n) k y e = absurd (none_some y e)
at_take (x ∷ xs) (suc n) zero y e = (omega arith, e)
at_take (x ∷ xs) (suc n) (suc k) y e = let r = at_take xs n k y e in (omega (arith, r.0), r.1)

pub take_at : {A : Type 0} (xs : List A) (n k : ℕ) (y : A) → k < n → at xs k ≡ Some y → at (take n xs) k ≡ Some y
take_at xs zero k y lt e = absurd (omega arith)
take_at [] (suc n) k y lt e = absurd (none_some y e)
take_at (x ∷ xs) (suc n) zero y lt e = e
take_at (x ∷ xs) (suc n) (suc k) y lt e = take_at xs n k y (omega arith) e

pub all_same : {A : Type 0} (x : A) (xs : List A) → All (λ y. y ≡ x) xs → xs ≡ replicate (length xs) x
all_same x [] h = refl
all_same x (y ∷ ys) h =
    ap (λ z. z ∷ ys) (h 0 y (omega arith)) ∙ ap (λ zs. x ∷ zs) (all_same x ys (λ k d lt. h (suc k) d (omega arith)))

-- the item of a loop over the items of a list
pub item_in : {A : Type 0} (items xs : List A) (i : ℕ) (x : A) → items ≡ xs → i < length items → x ≡ slice_index_or items i x → at xs i ≡ Some x
item_in items xs i x same lt e = ap (λ xs. at xs i) (sym same) ∙ at_index items i x lt e

-- what holds of each item before a place, and of the item there
pub one_more : {A : Type 0} (P : A → Type 0) (items xs : List A) (i : ℕ) (x : A) → items ≡ xs → i < length items → x ≡ slice_index_or items i x → P x →
    ((k : ℕ) → k < i → (y : A) → at xs k ≡ Some y → P y) → (k : ℕ) → k < i + 1 → (y : A) → at xs k ≡ Some y → P y
one_more {A} P items xs i x same lt e p before =
    below_more (λ k. (y : A) → at xs k ≡ Some y → P y) i before (λ y h. subst P (some_same x y (sym (item_in items xs i x same lt e) ∙ h)) p)

-- what holds of each item before the end
pub each_item : {A : Type 0} (P : A → Type 0) (items xs : List A) (i : ℕ) → items ≡ xs → length items ≤ i →
    ((k : ℕ) → k < i → (y : A) → at xs k ≡ Some y → P y) → (k : ℕ) → (y : A) → at xs k ≡ Some y → P y
each_item P items xs i same le before k y h =
    before k (omega (arith, at_below xs k y h, ap length same)) y h

-- from one item on
pub next : {A : Type 0} (i : ℕ) (xs : List A) (x : A) → i < length xs → x ≡ slice_index_or xs i x → drop i xs ≡ x ∷ drop (i + 1) xs
next i [] x lt e = absurd (omega arith)
next zero (y ∷ xs) x lt e = ap (λ z. z ∷ xs) (sym e)
next (suc i) (y ∷ xs) x lt e =
    let h : suc (i + 1) ≡ suc i + 1 = omega arith in next i xs x (omega arith) e ∙ ap (λ n. x ∷ drop n (y ∷ xs)) h

pub next_item : {A : Type 0} (items xs : List A) (i : ℕ) (x : A) → items ≡ xs → i < length items → x ≡ slice_index_or items i x →
    drop i xs ≡ x ∷ drop (i + 1) xs
next_item items xs i x same lt e =
    ap (drop i) (sym same) ∙ next i items x lt e ∙ ap (λ xs. x ∷ drop (i + 1) xs) same

pub mapped_next : {A B : Type 0} (f : A → B) (items xs : List A) (i : ℕ) (x : A) (done : List B) → items ≡ xs → i < length items →
    x ≡ slice_index_or items i x → (done ++ (f x ∷ [])) ++ map f (drop (i + 1) xs) ≡ done ++ map f (drop i xs)
mapped_next f items xs i x done same lt e =
    append_assoc done (f x ∷ []) (map f (drop (i + 1) xs)) ∙ ap (λ ys. done ++ map f ys) (sym (next_item items xs i x same lt e))
