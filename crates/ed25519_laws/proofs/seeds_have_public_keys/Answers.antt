use Rattle.ed25519_laws.proofs.Seeds as seeds
use Rattle.ed25519_laws.proofs.seeds_have_public_keys.Goals as goal

pub returns : goal.returns
returns c = seeds.seeds_have_public_keys
