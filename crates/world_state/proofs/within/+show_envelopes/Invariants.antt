use Rattle.std.proofs.Common.{length}
use Rattle.world_state.proofs.within.+show_envelopes.Given as goal

abbrev pub decreases-show_envelopes : goal.decreases-show_envelopes
decreases-show_envelopes l = length l.envelopes.now
