-- A worker's share with one more answer.
use Rattle.std.proofs.Common.{◌≡◌, ℕ, suc, ◌+◌, ◌*◌, ◌<◌, Bool, false, List, [], ◌∷◌, ◌++◌, length, get_or, inl, inr, sym, ap, subst, ◌∙◌, arith}
use Rattle.std.proofs.lemmas.Bool.{cases_lt}
use Rattle.std.proofs.lemmas.List.{get_or_append_left, length-append}
use Rattle.std.proofs.Math.Seq.{get_or-append_seam}
use Rattle.std.proofs.Math.Nat.{mul-suc}

module _ (all done : List Bool) (worker workers index : ℕ) (answer : Bool) (place : index ≡ worker + workers * length done) where
  longer : length (done ++ answer ∷ []) ≡ suc (length done)
  longer = simp length-append (omega arith)

  pub next_place : index + workers ≡ worker + workers * length (done ++ answer ∷ [])
  next_place = rw (longer, mul-suc workers (length done)) (omega arith)

  pub next_answer : answer ≡ get_or all index false → ((turn : ℕ) → turn < length done → get_or done turn false ≡ get_or all (worker + workers * turn) false)
      → (turn : ℕ) → turn < length (done ++ answer ∷ []) → get_or (done ++ answer ∷ []) turn false ≡ get_or all (worker + workers * turn) false
  next_answer is before turn lt =
      elim (cases_lt turn (length done)) [
        | inl below ↦ get_or_append_left done (answer ∷ []) false turn below ∙ before turn below
        | inr above ↦ (let here : turn ≡ length done = omega (arith, longer) in
            ap (λ (t : ℕ). get_or (done ++ answer ∷ []) t false) here ∙ get_or-append_seam done answer [] false ∙ is
            ∙ ap (λ (i : ℕ). get_or all i false) (place ∙ ap (λ (t : ℕ). worker + workers * t) (sym here)))
      ]

  pub next_within : (count : ℕ) → index < count → ((turn : ℕ) → turn < length done → worker + workers * turn < count) → (turn : ℕ) →
      turn < length (done ++ answer ∷ []) → worker + workers * turn < count
  next_within count here before turn lt =
      elim (cases_lt turn (length done)) [
        | inl below ↦ before turn below
        | inr above ↦ (let last : turn ≡ length done = omega (arith, longer) in
            subst (λ (t : ℕ). worker + workers * t < count) (sym last) (subst (λ (i : ℕ). i < count) place here))
      ]
