use Rattle.log_system.proofs.Joining.{one_system}
use Rattle.log_system.proofs.laws.apart.Goals as goal

pub returns : goal.returns
returns c = one_system c.log_laws.ensures.behind c.ordering_laws.ensures.step c.ordering_laws.ensures.opening
