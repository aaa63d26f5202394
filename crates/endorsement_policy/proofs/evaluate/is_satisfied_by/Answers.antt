use Rattle.policy_language.proofs.Evaluates.{satisfied_is}
use Rattle.endorsement_policy.proofs.evaluate.is_satisfied_by.Goals as goal

pub returns : goal.returns
returns c = satisfied_is c.args.orgs.now c.args.policy.now c.is_met.result c.is_met.ensures
