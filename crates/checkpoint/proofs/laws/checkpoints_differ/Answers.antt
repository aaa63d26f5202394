use Rattle.checkpoint.proofs.OneKept.{kept_alike}
use Rattle.checkpoint.proofs.laws.checkpoints_differ.Goals as goal

pub returns : goal.returns
returns c = kept_alike
