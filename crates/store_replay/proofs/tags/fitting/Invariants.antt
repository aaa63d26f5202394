use Rattle.std.proofs.Common.{◌-◌, ◌≤◌, length}
use Rattle.store_replay.proofs.tags.fitting.Given as goal

abbrev pub invariant-loop-count : goal.invariant-loop-count
invariant-loop-count l = l.count ≤ length l.records

abbrev pub decreases-loop-count : goal.decreases-loop-count
decreases-loop-count l = length l.records - l.count
