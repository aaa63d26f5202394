use Rattle.key_file.proofs.Lines.{one_list}
use Rattle.key_file.proofs.laws.spelled_once.Goals as goal

pub returns : goal.returns
returns c = one_list
