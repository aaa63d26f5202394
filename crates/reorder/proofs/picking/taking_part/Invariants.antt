use Rattle.std.proofs.Common.{◌≡◌, take}
use Rattle.reorder.specs.Plan.{all_but}
use Rattle.reorder.proofs.picking.taking_part.Given as goal

abbrev pub invariant-loop-i : goal.invariant-loop-i
invariant-loop-i l = l.left.items ≡ all_but (take l.i-index l.gone) l.size
