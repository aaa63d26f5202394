use Rattle.std.proofs.Common.{length}
use Rattle.json_genesis.proofs.organisations.+have_different_keys.Given as goal

abbrev pub decreases-have_different_keys : goal.decreases-have_different_keys
decreases-have_different_keys l = length l.organisations.now
