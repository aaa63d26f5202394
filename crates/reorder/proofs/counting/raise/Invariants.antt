use Rattle.std.proofs.Common.{◌≡◌, ℕ, ◌+◌, ◌<◌, ◌≤◌, false, get_or, if◌then◌else◌}
use Rattle.reorder.proofs.counting.raise.Given as goal

abbrev pub invariant-loop-k : goal.invariant-loop-k
invariant-loop-k l = record {
  raised : (j : ℕ) → j < l.k → get_or l.counts j 0 ≡ get_or l.fn.counts j 0 + (if get_or l.row j false then 1 else 0);
  rest : (j : ℕ) → l.k ≤ j → get_or l.counts j 0 ≡ get_or l.fn.counts j 0;
}
