use Rattle.log_orderer.proofs.Recutting.{cut_again}
use Rattle.log_orderer.proofs.laws.a_chain_is_cut_again.Goals as goal

pub returns : goal.returns
returns c = cut_again
