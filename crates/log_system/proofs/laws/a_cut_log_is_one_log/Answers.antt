use Rattle.log_system.proofs.Cutting.{beside_log}
use Rattle.log_system.proofs.laws.a_cut_log_is_one_log.Goals as goal

pub returns : goal.returns
returns c = beside_log c.log_laws.ensures.behind c.log_laws.ensures.one c.log_laws.ensures.onward c.a_cut_log_reads_on.ensures
