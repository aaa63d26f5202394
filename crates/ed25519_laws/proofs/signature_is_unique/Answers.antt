use Rattle.ed25519_laws.proofs.Uniqueness as uniqueness
use Rattle.ed25519_laws.proofs.signature_is_unique.Goals as goal

pub returns : goal.returns
returns c = uniqueness.signature_is_unique
