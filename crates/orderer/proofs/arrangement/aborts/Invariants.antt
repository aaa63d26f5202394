use Rattle.std.proofs.Common.{◌≡◌}
use Rattle.std.specs.List.{range_with_len}
use Rattle.orderer.specs.Arranged.{aborts}
use Rattle.orderer.proofs.arrangement.aborts.Given as goal

abbrev pub invariant-loop-place : goal.invariant-loop-place
invariant-loop-place l = l.aborted.items ≡ aborts l.outdated l.dropped (range_with_len 0 l.place-counter)
