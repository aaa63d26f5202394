use Rattle.ed25519_laws.proofs.Encodings as encodings
use Rattle.ed25519_laws.proofs.encoding_is_unique.Goals as goal

pub returns : goal.returns
returns c = encodings.encoding_is_unique
