use Rattle.std.proofs.Common.{◌≡◌, ℕ, ◌+◌, ◌<◌, ◌≤◌, length, get_or, if◌then◌else◌}
use Rattle.reorder.specs.Cells.{edge_at}
use Rattle.reorder.proofs.counting.lower_out.Given as goal

abbrev pub invariant-loop-k : goal.invariant-loop-k
invariant-loop-k l = record {
  lowered :
      (p : ℕ) → p < l.k-index →
      get_or l.out (get_or l.waiting p 0) 0 + (if edge_at l.edges (get_or l.waiting p 0) l.gone then 1 else 0) ≡ get_or l.fn.out (get_or l.waiting p 0) 0;
  rest : (p : ℕ) → l.k-index ≤ p → p < length l.waiting → get_or l.out (get_or l.waiting p 0) 0 ≡ get_or l.fn.out (get_or l.waiting p 0) 0;
}
