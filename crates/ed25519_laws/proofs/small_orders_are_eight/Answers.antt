use Rattle.ed25519_laws.proofs.Eight as eight
use Rattle.ed25519_laws.proofs.small_orders_are_eight.Goals as goal

pub returns : goal.returns
returns c = eight.small_orders_are_eight
