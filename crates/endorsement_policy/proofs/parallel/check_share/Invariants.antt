use Rattle.std.proofs.Common.{map, ◌≡◌, ℕ, ◌+◌, ◌*◌, ◌-◌, ◌<◌, false, length, get_or}
use Rattle.endorsement_policy.specs.Judge.{judges}
use Rattle.endorsement_policy.proofs.parallel.check_share.Given as goal

abbrev pub decreases-loop-index : goal.decreases-loop-index
decreases-loop-index g l = length l.envelopes - l.index

abbrev pub invariant-loop-index : goal.invariant-loop-index
invariant-loop-index g l = record {
  place : l.index ≡ l.worker + l.workers * length l.answers.items;
  so_far : (turn : ℕ) → turn < length l.answers.items →
      get_or l.answers.items turn false ≡ get_or (map (judges l.judge) l.envelopes) (l.worker + l.workers * turn) false;
  within : (turn : ℕ) → turn < length l.answers.items → l.worker + l.workers * turn < length l.envelopes;
}
