use Rattle.host_api.proofs.Alone.{outcome_reads_alone}
use Rattle.host_api.proofs.reads_alone.Goals as goal

pub returns : goal.returns
returns c = outcome_reads_alone
