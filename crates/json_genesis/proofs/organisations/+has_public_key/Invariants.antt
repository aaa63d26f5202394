use Rattle.std.proofs.Common.{length}
use Rattle.json_genesis.proofs.organisations.+has_public_key.Given as goal

abbrev pub decreases-has_public_key : goal.decreases-has_public_key
decreases-has_public_key l = length l.organisations.now
