use Rattle.std.proofs.Common.{Bool, List, ◌++◌, length}
use Rattle.reorder.specs.declared.pick.Pick.{Pick}
use Rattle.reorder.specs.Plan.{IsPlan, all_but}
use Rattle.reorder.specs.Cells.{edge_at}
use Rattle.reorder.specs.Counts.{IsCounted, IsListed}
use Rattle.reorder.proofs.picking.picks.Given as goal

abbrev pub invariant-loop-next : goal.invariant-loop-next
invariant-loop-next l = record {
  wait : List Bool;
  listed : IsListed wait l.waiting.items;
  counted : IsCounted l.edges.size (edge_at l.edges) wait l.into.items l.out.items;
  goes_on :
      (rest : List Pick) → IsPlan l.edges.size (edge_at l.edges) wait rest →
      IsPlan l.edges.size (edge_at l.edges) (all_but l.gone l.edges.size) (l.picks.items ++ rest);
}

abbrev pub decreases-loop-next : goal.decreases-loop-next
decreases-loop-next l = length l.waiting.items
