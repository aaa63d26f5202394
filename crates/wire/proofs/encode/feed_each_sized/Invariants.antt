use Rattle.std.proofs.Common.{ℕ, List, ◌++◌, take}
use Rattle.std.specs.List.{flat_map}
use Rattle.sha2.specs.Hashers.{Holds256}
use Rattle.fab_types.specs.BlockSpelling.{sized_bytes}
use Rattle.wire.proofs.encode.feed_each_sized.Given as goal

abbrev pub invariant-loop-envelope : goal.invariant-loop-envelope
invariant-loop-envelope l =
    (front : List ℕ) → Holds256 l.fn.hasher front → Holds256 l.hasher (front ++ flat_map sized_bytes (take l.envelope-index l.envelopes))
