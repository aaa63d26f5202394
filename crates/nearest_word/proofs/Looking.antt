-- The nearest of the words that were looked at, one after another.
use Rattle.std.proofs.Common.{◌++◌, ◌≤◌, ◌<◌, ℕ, suc, List, [], ◌∷◌, Option, Some, None, arith, refl, sym, ap, subst, ◌∙◌}
use Rattle.std.specs.Borrow.{Bor}
use Rattle.std.specs.List.{All}
use Rattle.std.proofs.lemmas.List.{append_assoc}
use Rattle.std.proofs.lemmas.List.Elements.{All-nil, All-cons, All-push, All-append, All-weaker}
use Rattle.nearest_word.specs.Nearest.{IsNearest, edits}

-- fewer edits than so many lead to a word that is nearer
abbrev pub bound_of : ℕ → List ℕ → Option (Bor (List ℕ)) → ℕ
bound_of most word None = suc most
bound_of most word (Some nearest) = edits word nearest.now

-- one more word, which is no nearer
pub nearest_kept : (most : ℕ) (word : List ℕ) (done : List (Bor (List ℕ))) (best : Option (Bor (List ℕ))) (each : Bor (List ℕ)) →
    IsNearest most word done best → bound_of most word best ≤ edits word each.now → IsNearest most word (done ++ each ∷ []) best
nearest_kept most word done None each far further = All-push (λ w. most < edits word w.now) done each far (omega (arith, further))
nearest_kept most word done (Some best) each is further = (
  is.0,
  is.1 ++ each ∷ [],
  ap (λ ws. ws ++ each ∷ []) is.2 ∙ append_assoc is.0 (best ∷ is.1) (each ∷ []),
  is.3,
  is.4,
  All-push (λ w. edits word best.now ≤ edits word w.now) is.1 each is.5 further,
)

-- one more word, which is nearer
pub nearest_taken : (most : ℕ) (word : List ℕ) (done : List (Bor (List ℕ))) (best : Option (Bor (List ℕ))) (each : Bor (List ℕ)) →
    IsNearest most word done best → edits word each.now < bound_of most word best → IsNearest most word (done ++ each ∷ []) (Some each)
nearest_taken most word done None each far nearer = (
  done,
  [],
  refl,
  omega (arith, nearer),
  All-weaker (λ w. most < edits word w.now) (λ w. edits word each.now < edits word w.now) (λ w at. omega (arith, nearer, at)) done far,
  All-nil _,
)
nearest_taken most word done (Some best) each is nearer =
    let Further : Bor (List ℕ) → Type 0 = λ w. edits word each.now < edits word w.now in
    let before = All-weaker (λ w. edits word best.now < edits word w.now) Further (λ w at. omega (arith, nearer, at)) is.0 is.4 in
    let behind = All-weaker (λ w. edits word best.now ≤ edits word w.now) Further (λ w at. omega (arith, nearer, at)) is.1 is.5 in (
      done,
      [],
      refl,
      omega (arith, nearer, is.3),
      subst (All Further) (sym is.2) (All-append Further is.0 (best ∷ is.1) before (All-cons Further best is.1 nearer behind)),
      All-nil _,
    )
