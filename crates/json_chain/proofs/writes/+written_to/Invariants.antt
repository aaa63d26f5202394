use Rattle.std.proofs.Common.{length}
use Rattle.json_chain.proofs.writes.+written_to.Given as goal

abbrev pub decreases-written_to : goal.decreases-written_to
decreases-written_to l = length l.writes.now
