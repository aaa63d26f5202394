use Rattle.std.proofs.Common.{sym, subst, ◌∙◌, ◌<◌, ℕ, List, length}
use Rattle.std.specs.List.{AllByRecursion}
use Rattle.orderer.proofs.Arranging.{stale_inside}
use Rattle.orderer.proofs.arrangement.arrange.Goals as goal

pub reorder-requires-clause-gone : goal.reorder-requires-clause-gone
reorder-requires-clause-gone c =
    let batch = c.args.batch.now in
    subst (λ (xs : List ℕ). AllByRecursion (λ i. i < length batch) xs) (sym (c.deref.ensures.value ∙ c.in_ok-outdated.ensures)) (stale_inside batch)
