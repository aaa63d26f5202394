use Rattle.edwards_model.proofs.Group as group
use Rattle.edwards_model.proofs.Ordering as ordering
use Rattle.edwards_model.proofs.Primality as primality
use Rattle.edwards_model.proofs.base_has_order.Goals as goal

pub returns : goal.returns
returns c = record { prime = primality.order_is_prime; ends = group.order_of_base; once = ordering.once }
