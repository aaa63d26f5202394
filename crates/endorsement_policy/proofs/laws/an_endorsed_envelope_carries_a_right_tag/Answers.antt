use Rattle.endorsement_policy.proofs.Rights.{carries}
use Rattle.endorsement_policy.proofs.laws.an_endorsed_envelope_carries_a_right_tag.Goals as goal

pub returns : goal.returns
returns c = λ m e met. carries c.args.rules.now m e c.policies-policies.ensures.needed c.upgrade-upgrade.ensures.needed met
