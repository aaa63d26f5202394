use Rattle.endorsement_policy.proofs.OwnKeys.{of_all, of_members}
use Rattle.endorsement_policy.proofs.laws.public_keys_differ.Goals as goal

pub returns : goal.returns
returns c = record { members = of_members; all = of_all }
