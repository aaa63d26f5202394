-- What stands in a list.
use Rattle.std.proofs.Common.{inl, inr, ◌≡◌, ◌⊎◌, ℕ, zero, suc, List, [], ◌∷◌, ◌++◌, Some, slice_get}
use Rattle.fabric_core.specs.Headline.{IsAmong}

pub same_some : {X : Type 0} (x y : X) → Some x ≡ Some y → x ≡ y
same_some x y e = cc

pub none_among : {X A : Type 0} (x : X) → IsAmong x [] → A
none_among x h = let e = h.1 in absurd (cc)

pub later_among : {X : Type 0} (x y : X) (xs : List X) → IsAmong x xs → IsAmong x (y ∷ xs)
later_among x y xs h = (suc h.0, h.1)

first_or_later : {X : Type 0} (x y : X) (xs : List X) (i : ℕ) → slice_get (y ∷ xs) i ≡ Some x → (y ≡ x) ⊎ IsAmong x xs
first_or_later x y xs zero e = inl (same_some y x e)
first_or_later x y xs (suc i) e = inr (i, e)

pub cases_among : {X : Type 0} (x y : X) (xs : List X) → IsAmong x (y ∷ xs) → (y ≡ x) ⊎ IsAmong x xs
cases_among x y xs h = first_or_later x y xs h.0 h.1

pub behind_among : {X : Type 0} (x : X) (xs ys : List X) → IsAmong x ys → IsAmong x (xs ++ ys)
behind_among x [] ys h = h
behind_among x (y ∷ xs) ys h = later_among x y (xs ++ ys) (behind_among x xs ys h)

front_at : {X : Type 0} (x : X) (xs ys : List X) (i : ℕ) → slice_get xs i ≡ Some x → IsAmong x (xs ++ ys)
front_at x [] ys i e = none_among x (i, e)
front_at x (y ∷ xs) ys zero e = (0, e)
front_at x (y ∷ xs) ys (suc i) e = later_among x y (xs ++ ys) (front_at x xs ys i e)

pub front_among : {X : Type 0} (x : X) (xs ys : List X) → IsAmong x xs → IsAmong x (xs ++ ys)
front_among x xs ys h = front_at x xs ys h.0 h.1

pub parts_among : {X : Type 0} (x : X) (xs ys : List X) → IsAmong x (xs ++ ys) → IsAmong x xs ⊎ IsAmong x ys
parts_among x [] ys h = inr h
parts_among x (y ∷ xs) ys h =
    elim (cases_among x y (xs ++ ys) h) [
      | inl same ↦ inl (0, λ i. Some (same i))
      | inr later ↦ elim (parts_among x xs ys later) [ inl front ↦ inl (later_among x y xs front) | inr back ↦ inr back ]
    ]
