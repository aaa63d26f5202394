use Rattle.std.proofs.Common.{length}
use Rattle.endorsement_policy.proofs.members.+have_own_keys.Given as goal

abbrev pub decreases-have_own_keys : goal.decreases-have_own_keys
decreases-have_own_keys l = length l.organisations.now
