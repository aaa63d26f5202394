use Rattle.std.proofs.Common.{◌≡◌, ◌+◌, ◌∙◌, suc, take, arith, subst, sym, ap}
use Rattle.std.proofs.Math.Seq.{take-suc}
use Rattle.std.proofs.lemmas.List.Elements.{All-nil}
use Rattle.nearest_word.specs.Nearest.{IsNearest, most_edits}
use Rattle.nearest_word.proofs.Looking.{bound_of, nearest_kept, nearest_taken}
use Rattle.nearest_word.proofs.nearest.Goals as goal
use Rattle.nearest_word.proofs.nearest.Goals.{then-edits-bound, else-edits-bound}

pub loop-each-init : goal.loop-each-init
loop-each-init c = record { nearest = All-nil _; bound = omega (arith, c.min-bound.ensures) }

pub loop-each-preserved : goal.loop-each-preserved
loop-each-preserved c =
    let word = c.args.word.now in
    let most = most_edits word in
    let index = c.loop-each.each-index in
    let next : index + 1 ≡ suc index = omega arith in
    let more = ap (λ n. take n c.args.words.now) next ∙ take-suc c.args.words.now index _ c.loop-each-test.true in
    elim c.if-edits-bound.branch [
      | then-edits-bound w ↦ record {
        nearest = subst (λ ws. IsNearest most word ws c.if-edits-bound.best) (sym more)
            (subst (IsNearest most word _) (sym w.best-is) (nearest_taken most word _ c.loop-each.best _ c.loop-each.invariant.nearest
            (omega (arith, w.if-edits-bound.true, c.in_ok-edits.ensures.value, c.loop-each.invariant.bound))));
        bound = w.bound-is ∙ c.in_ok-edits.ensures.value ∙ sym (ap (λ b. bound_of most word b) w.best-is);
      }
      | else-edits-bound w ↦ record {
        nearest = subst (λ ws. IsNearest most word ws c.if-edits-bound.best) (sym more)
            (subst (IsNearest most word _) (sym w.best-is) (nearest_kept most word _ c.loop-each.best _ c.loop-each.invariant.nearest
            (omega (arith, w.if-edits-bound.false, c.in_ok-edits.ensures.value, c.loop-each.invariant.bound))));
        bound = w.bound-is ∙ c.loop-each.invariant.bound ∙ sym (ap (λ b. bound_of most word b) w.best-is);
      }
    ]
