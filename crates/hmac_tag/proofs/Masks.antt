-- A list of which each element is changed in turn.
use Rattle.std.proofs.Common.{◌≡◌, ◌<◌, ◌+◌, ℕ, zero, suc, List, [], ◌∷◌, ◌++◌, length, take, drop, map, refl, ap, ◌∙◌, arith, slice_index_or, slice_set}

module _ (f : ℕ → ℕ) where
  -- the first p are changed
  abbrev changed_to : ℕ → List ℕ → List ℕ
  changed_to p xs = map f (take p xs) ++ drop p xs

  one_more_suc : (xs : List ℕ) (p : ℕ) → p < length xs → slice_set (changed_to p xs) p (f (slice_index_or (changed_to p xs) p 0)) ≡ changed_to (suc p) xs
  one_more_suc [] p h = absurd (let e : p < 0 = h in omega arith)
  one_more_suc (x ∷ xs) zero h = refl
  one_more_suc (x ∷ xs) (suc p) h = ap (λ ys. f x ∷ ys) (one_more_suc xs p (omega (arith, h)))

  pub one_more : (xs : List ℕ) (p : ℕ) → p < length xs → slice_set (changed_to p xs) p (f (slice_index_or (changed_to p xs) p 0)) ≡ changed_to (p + 1) xs
  one_more xs p h = let next : suc p ≡ p + 1 = omega arith in one_more_suc xs p h ∙ ap (λ k. changed_to k xs) next
