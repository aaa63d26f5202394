use Rattle.checkpoint.proofs.OneSpelling.{one_spelling}
use Rattle.checkpoint.proofs.laws.checkpoints_agree.Goals as goal

pub returns : goal.returns
returns c = one_spelling
