use Rattle.edwards_model.proofs.Primality as primality
use Rattle.edwards_model.proofs.p_is_prime.Goals as goal

pub returns : goal.returns
returns c = primality.p_is_prime
