use Rattle.std.proofs.Common.{◌≡◌, drop}
use Rattle.world_state.specs.Amending.{has_amending}
use Rattle.world_state.proofs.shared_blocks.amends.Given as goal

abbrev pub invariant-loop-place : goal.invariant-loop-place
invariant-loop-place l = has_amending (drop l.place l.envelopes) (drop l.place l.flags) ≡ has_amending l.envelopes l.flags
