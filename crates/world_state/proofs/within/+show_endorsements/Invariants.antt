use Rattle.std.proofs.Common.{length}
use Rattle.world_state.proofs.within.+show_endorsements.Given as goal

abbrev pub decreases-show_endorsements : goal.decreases-show_endorsements
decreases-show_endorsements l = length l.endorsements.now
