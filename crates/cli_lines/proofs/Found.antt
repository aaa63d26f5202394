-- Where an element is found that passes a test, one passes it; what a search finds first.
use Rattle.std.proofs.Common.{◌≡◌, Bool, true, false, cond, ◌||◌, List, [], ◌∷◌, Option, Some, is_some, refl, sym, ap, ◌∙◌, find}
use Rattle.std.specs.List.{list_any}

first_or : {X : Type 0} (b : Bool) (x : X) (o : Option X) → is_some (cond b (Some x) o) ≡ (b || is_some o)
first_or true x o = refl
first_or false x o = refl

some_passes : {X : Type 0} (test : X → Bool) (xs : List X) → is_some (find test xs) ≡ list_any test xs
some_passes test [] = refl
some_passes test (x ∷ xs) = first_or (test x) x (find test xs) ∙ ap (λ b. test x || b) (some_passes test xs)

pub is_any : {X : Type 0} (test : X → Bool) (xs : List X) (found : Option X) → found ≡ find test xs → list_any test xs ≡ is_some found
is_any test xs found e = sym (some_passes test xs) ∙ sym (ap is_some e)

-- a search passes over an element, or ends at it
pub find_behind : {A : Type 0} (test : A → Bool) (x : A) (xs : List A) → test x ≡ false → find test (x ∷ xs) ≡ find test xs
find_behind test x xs is = rw is refl

pub find_here : {A : Type 0} (test : A → Bool) (x : A) (xs : List A) → test x ≡ true → find test (x ∷ xs) ≡ Some x
find_here test x xs is = rw is refl
