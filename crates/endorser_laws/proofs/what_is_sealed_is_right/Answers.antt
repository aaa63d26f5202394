use Rattle.endorser_laws.proofs.Sealing.{sealed_is_right}
use Rattle.endorser_laws.proofs.what_is_sealed_is_right.Goals as goal

pub returns : goal.returns
returns c = sealed_is_right c.signed_is_verified.ensures
