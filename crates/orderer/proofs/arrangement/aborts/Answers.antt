use Rattle.std.proofs.Common.{rules, ◌≡◌, ◌∷◌, ◌++◌, [], List, ℕ, true, false, sym, ap, ◌∙◌}
use Rattle.orderer.specs.Arranged.{has_place}
use Rattle.orderer.specs.declared.arrangement.AbortCause.{AbortCause}
use Rattle.orderer.specs.declared.arrangement.AbortCause.TheVariants.{Outdated, Conflict}
use Rattle.orderer.proofs.Arranging.{outdated_more, dropped_more, none_more}
use Rattle.orderer.proofs.arrangement.aborts.Goals as goal
use Rattle.orderer.proofs.arrangement.aborts.Goals.{then-contains+in_ok-push, else-contains+then-contains-2+in_ok-push-2, else-contains+else-contains-2}

pub loop-place-preserved : goal.loop-place-preserved
loop-place-preserved c =
    let outdated = c.args.outdated.now in
    let dropped = c.args.dropped.now in
    let n = c.loop-place.place-counter in
    let was = c.loop-place.invariant in
    elim c.if-contains.branch [
      | then-contains+in_ok-push w ↦
          let is : has_place outdated n ≡ true = sym c.contains.ensures.value ∙ w.if-contains.true in
          let new : c.if-contains.aborted.items ≡ c.loop-place.aborted.items ++ (n, Outdated) ∷ [] = search rules in
          new ∙ ap (λ (xs : List (ℕ × AbortCause)). xs ++ (n, Outdated) ∷ []) was ∙ sym (outdated_more outdated dropped n is)
      | else-contains+then-contains-2+in_ok-push-2 w ↦
          let other : has_place outdated n ≡ false = sym c.contains.ensures.value ∙ w.if-contains.false in
          let is : has_place dropped n ≡ true = sym w.contains-else-contains.ensures.value ∙ w.if-contains-2.true in
          let new : c.if-contains.aborted.items ≡ c.loop-place.aborted.items ++ (n, Conflict) ∷ [] = search rules in
          new ∙ ap (λ (xs : List (ℕ × AbortCause)). xs ++ (n, Conflict) ∷ []) was ∙ sym (dropped_more outdated dropped n other is)
      | else-contains+else-contains-2 w ↦
          let other : has_place outdated n ≡ false = sym c.contains.ensures.value ∙ w.if-contains.false in
          let none : has_place dropped n ≡ false = sym w.contains-else-contains.ensures.value ∙ w.if-contains-2.false in
          let new : c.if-contains.aborted.items ≡ c.loop-place.aborted.items = search rules in
          new ∙ was ∙ sym (none_more outdated dropped n other none)
    ]
