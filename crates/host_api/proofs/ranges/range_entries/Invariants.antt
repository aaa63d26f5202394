use Rattle.std.proofs.Common.{◌≡◌, ◌++◌, drop}
use Rattle.host_api.proofs.Replies.{keys_of}
use Rattle.host_api.proofs.ranges.range_entries.Given as goal

abbrev pub invariant-loop-key : goal.invariant-loop-key
invariant-loop-key l = l.items.items ++ keys_of (drop l.key-index l.entries) ≡ keys_of l.entries
