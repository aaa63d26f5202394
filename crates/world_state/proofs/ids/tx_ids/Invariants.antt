use Rattle.std.proofs.Common.{◌≡◌, ◌++◌, drop}
use Rattle.world_state.specs.Ids.{ids_of}
use Rattle.world_state.proofs.ids.tx_ids.Given as goal

abbrev pub invariant-loop-envelope : goal.invariant-loop-envelope
invariant-loop-envelope l = l.ids.items ++ ids_of (drop l.envelope-index l.envelopes) ≡ ids_of l.envelopes
