use Rattle.log_orderer.proofs.Recutting.{cut_on}
use Rattle.log_orderer.proofs.laws.a_cut_log_reads_on.Goals as goal

pub returns : goal.returns
returns c = cut_on
