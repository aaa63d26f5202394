use Rattle.reorder.specs.Counts.{AreBlocked, edges_at}
use Rattle.reorder.proofs.Best.{IsBest}
use Rattle.reorder.proofs.picking.next_pick.Given as goal

abbrev pub invariant-loop-at : goal.invariant-loop-at
invariant-loop-at l = record {
  blocked : AreBlocked l.waiting l.into l.at;
  best : IsBest (edges_at l.waiting l.into l.out) l.at l.best l.most;
}
