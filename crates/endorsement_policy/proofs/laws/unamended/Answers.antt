use Rattle.endorsement_policy.proofs.Stands.{unchanged}
use Rattle.endorsement_policy.proofs.laws.unamended.Goals as goal

pub returns : goal.returns
returns c = unchanged
