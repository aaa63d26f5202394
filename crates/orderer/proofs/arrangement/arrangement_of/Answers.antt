use Rattle.std.proofs.Common.{sym, subst, length, ℕ, List}
use Rattle.std.proofs.lemmas.Result.{IfOk-weaker}
use Rattle.reorder.specs.Stale.{stale}
use Rattle.reorder.specs.Edges.{edge_of}
use Rattle.orderer.specs.Places.{ArePlaces}
use Rattle.orderer.proofs.Picking.{all_are_places}
use Rattle.orderer.proofs.Arranging.{planned_places}
use Rattle.orderer.proofs.arrangement.arrangement_of.Goals as goal

pub returns-then-reorder-clause-places : goal.returns-then-reorder-clause-places
returns-then-reorder-clause-places c =
    let batch = c.args.batch.now in
    IfOk-weaker c.arrange.result _ _ (λ p a. planned_places (length batch) (edge_of batch) (stale batch) p.order.items a.dropped a.planned) c.arrange.ensures

pub returns-else-reorder-clause-places : goal.returns-else-reorder-clause-places
returns-else-reorder-clause-places c =
    let n = length c.args.batch.now in
    IfOk-weaker c.as_cut.result _ _ (λ p e. subst (λ (xs : List ℕ). ArePlaces n xs) (sym e) (all_are_places n)) c.as_cut.ensures.order
