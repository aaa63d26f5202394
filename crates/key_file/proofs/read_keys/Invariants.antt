use Rattle.std.proofs.Common.{length}
use Rattle.key_file.proofs.Lines.{Leaves}
use Rattle.key_file.proofs.read_keys.Given as goal

abbrev pub invariant-loop-key : goal.invariant-loop-key
invariant-loop-key l = Leaves l.fn.bytes l.keys.items l.left

abbrev pub decreases-loop-key : goal.decreases-loop-key
decreases-loop-key l = length l.left
