-- Parts of lists.
use Rattle.std.proofs.Common.{◌≡◌, ℕ, zero, suc, ◌+◌, ◌<◌, List, [], ◌∷◌, ◌++◌, length, get_or, take, sym, ap, arith}

-- one item more
pub one_more : {A : Type 0} (i : ℕ) (xs : List A) (x : A) → i < length xs → x ≡ get_or xs i x → take (i + 1) xs ≡ take i xs ++ x ∷ []
one_more i [] x within is = absurd (omega arith)
one_more {A} zero (y ∷ xs) x within is = ap (λ (a : A). a ∷ []) (sym is)
one_more {A} (suc i) (y ∷ xs) x within is =
    let next : suc i + 1 ≡ suc (i + 1) = omega arith in
    rw next (ap (λ (ys : List A). y ∷ ys) (one_more i xs x (omega arith) is))
