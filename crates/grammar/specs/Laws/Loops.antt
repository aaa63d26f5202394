-- Reading items one after another, as a loop does.
use Rattle.std.proofs.Common.{◌≡◌, ℕ, suc, ◌-◌, ◌+◌, ◌≤◌, ◌<◌, List, [], ◌∷◌, ◌++◌, Option, Some, None, refl, sym, ap, ◌∙◌, append_assoc, arith}
use Rattle.std.proofs.lemmas.List.{append-nil}
use Rattle.grammar.specs.Reading.{◌>>=◌, repeats_at}

-- what was read before, and what is still read
abbrev pub with_front : {A : Type 0} → List A → Option (List A × List ℕ) → Option (List A × List ℕ)
with_front front read = read >>= λ x. Some (front ++ x.0, x.1)

pub regroup : {A : Type 0} (front : List A) (n : A) (read : Option (List A × List ℕ)) →
    with_front front (read >>= λ x. Some (n ∷ x.0, x.1)) ≡ with_front (front ++ n ∷ []) read
regroup {A = A} front n (Some x) = ap (λ (ns : List A). Some (ns, x.1)) (simp append_assoc)
regroup front n None = refl

pub nothing_before : {A : Type 0} (read : Option (List A × List ℕ)) → with_front [] read ≡ read
nothing_before (Some x) = refl
nothing_before None = refl

module _ {A : Type 0} (read : List ℕ → Option (A × List ℕ)) (front : List A) (count i : ℕ) (bytes : List ℕ) (total : Option (List A × List ℕ)) where
  pub goes_on : (n : A) (after : List ℕ) → i < count → read bytes ≡ Some (n, after)
      → with_front front (repeats_at read (count - i) bytes) ≡ total → with_front (front ++ n ∷ []) (repeats_at read (count - (i + 1)) after) ≡ total
  unfolding repeats_at
  goes_on n after lt h so_far =
      let k : count - i ≡ suc (count - (i + 1)) = omega arith in
      let one : with_front front (repeats_at read (count - i) bytes) ≡ with_front (front ++ n ∷ []) (repeats_at read (count - (i + 1)) after) =
      rw (k, h) (regroup front n (repeats_at read (count - (i + 1)) after)) in
      sym one ∙ so_far

  pub refused : i < count → read bytes ≡ None → with_front front (repeats_at read (count - i) bytes) ≡ total → total ≡ None
  unfolding repeats_at
  refused lt h so_far =
      let k : count - i ≡ suc (count - (i + 1)) = omega arith in
      let one : with_front front (repeats_at read (count - i) bytes) ≡ None = rw (k, h) refl in
      sym so_far ∙ one

  pub is_done : count ≤ i → with_front front (repeats_at read (count - i) bytes) ≡ total → total ≡ Some (front, bytes)
  unfolding repeats_at
  is_done le so_far =
      let k : count - i ≡ 0 = omega arith in
      let one : with_front front (repeats_at read (count - i) bytes) ≡ Some (front, bytes) = rw k (ap (λ (ns : List A). Some (ns, bytes)) (append-nil front)) in
      sym so_far ∙ one
