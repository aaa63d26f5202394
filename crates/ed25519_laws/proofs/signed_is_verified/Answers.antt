use Rattle.ed25519_laws.proofs.Agreeing as agreeing
use Rattle.ed25519_laws.proofs.signed_is_verified.Goals as goal

pub returns : goal.returns
returns c = agreeing.signed_is_verified
