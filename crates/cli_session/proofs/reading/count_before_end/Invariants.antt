use Rattle.std.proofs.Common.{length, ◌-◌, ◌≤◌}
use Rattle.cli_session.specs.Reading.{NoEnd}
use Rattle.cli_session.proofs.reading.count_before_end.Given as goal

abbrev pub invariant-loop-count : goal.invariant-loop-count
invariant-loop-count l = (l.count ≤ length l.bytes) × NoEnd l.bytes l.count

abbrev pub decreases-loop-count : goal.decreases-loop-count
decreases-loop-count l = length l.bytes - l.count
