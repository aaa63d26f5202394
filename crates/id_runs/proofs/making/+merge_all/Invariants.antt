use Rattle.std.proofs.Common.{length}
use Rattle.id_runs.proofs.making.+merge_all.Given as goal

abbrev pub decreases-merge_all : goal.decreases-merge_all
decreases-merge_all l = length l.runs.now
