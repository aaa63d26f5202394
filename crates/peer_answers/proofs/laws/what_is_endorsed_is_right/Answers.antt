use Rattle.peer_answers.proofs.Rights.{endorsed_right}
use Rattle.peer_answers.proofs.laws.what_is_endorsed_is_right.Goals as goal

pub returns : goal.returns
returns c = endorsed_right c.what_is_sealed_is_right.ensures
