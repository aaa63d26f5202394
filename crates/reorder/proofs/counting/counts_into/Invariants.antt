use Rattle.std.proofs.Common.{◌≡◌, ℕ, ◌<◌, ◌&&◌, length, get_or}
use Rattle.reorder.specs.Plan.{tally, waits}
use Rattle.reorder.specs.Cells.{edge_at}
use Rattle.reorder.proofs.counting.counts_into.Given as goal

abbrev pub invariant-loop-from : goal.invariant-loop-from
invariant-loop-from l = record {
  long : length l.counts.items ≡ l.edges.size;
  each : (k : ℕ) → k < l.edges.size → get_or l.counts.items k 0 ≡ tally l.from (λ j. waits l.left j && edge_at l.edges j k);
}
