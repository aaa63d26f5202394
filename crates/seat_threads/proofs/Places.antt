-- What holds at each place of a list, as its end comes and goes.
use Rattle.std.proofs.Common.{◌≡◌, ℕ, zero, suc, ◌+◌, ◌++◌, List, [], ◌∷◌, length, length-append, slice_get, slice_index_or, Some, ◌<◌, refl, sym, ◌∙◌, ap}
use Rattle.std.proofs.Common.{subst, ⊎_elim, arith}
use Rattle.intake.proofs.Mails.{last_or}

pub at_last : {X : Type 0} (xs : List X) (x : X) → slice_get (xs ++ x ∷ []) (length xs) ≡ Some x
at_last [] x = refl
at_last (y ∷ xs) x = at_last xs x

pub at_left : {X : Type 0} (xs ys : List X) (k : ℕ) (x : X) → slice_get xs k ≡ Some x → slice_get (xs ++ ys) k ≡ Some x
at_left [] ys k x at = absurd (cc)
at_left (y ∷ xs) ys zero x at = at
at_left (y ∷ xs) ys (suc k) x at = at_left xs ys k x at

-- the first of some elements, whatever stands for the first of none
pub first_of_some : {X : Type 0} (xs : List X) (d e : X) → 0 < length xs → slice_index_or xs 0 d ≡ slice_index_or xs 0 e
first_of_some [] d e some = absurd (omega (arith, some))
first_of_some (x ∷ xs) d e some = refl

abbrev pub AllAt : {X : Type 0} → (ℕ → X → Type 0) → List X → Type 0
AllAt {X} P xs = (k : ℕ) (x : X) → slice_get xs k ≡ Some x → P k x

pub pushed : {X : Type 0} (P : ℕ → X → Type 0) (xs : List X) (x : X) → AllAt P xs → P (length xs) x → AllAt P (xs ++ x ∷ [])
pushed {X} P xs x all here k y at =
    ⊎_elim (λ old. all k y old)
    (λ (new : (k ≡ length xs) × (x ≡ y)). subst (P k) new.1 (subst (λ (n : ℕ). P n x) (sym new.0) here)) (last_or xs x y k at)

-- by the clause of `push` on the items
pub pushed_to : {X : Type 0} (P : ℕ → X → Type 0) (xs ys : List X) (x : X) → ys ≡ xs ++ x ∷ [] → AllAt P xs → P (length xs) x → AllAt P ys
pushed_to {X} P xs ys x is all here = subst (λ (l : List X). AllAt P l) (sym is) (pushed P xs x all here)

-- by the clause of `take_last` on the items
pub taken : {X : Type 0} (P : ℕ → X → Type 0) (xs ys : List X) (x : X) → xs ≡ ys ++ x ∷ [] → AllAt P xs →
    AllAt P ys × P (length ys) x × (length xs ≡ length ys + 1)
taken {X} P xs ys x is all =
    let whole : AllAt P (ys ++ x ∷ []) = subst (λ (l : List X). AllAt P l) is all in
    ((λ k y at. whole k y (at_left ys (x ∷ []) k y at)), whole (length ys) x (at_last ys x), ap (λ (l : List X). length l) is ∙ length-append ys (x ∷ []))
