use Rattle.reorder.proofs.Listing.{IsListedBelow}
use Rattle.reorder.proofs.picking.indices_of.Given as goal

abbrev pub invariant-loop-i : goal.invariant-loop-i
invariant-loop-i l = IsListedBelow l.left l.waiting.items l.i
