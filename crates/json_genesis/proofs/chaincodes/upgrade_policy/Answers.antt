use Rattle.std.proofs.lemmas.Result.{IfErr-weaker}
use Rattle.policy_language.specs.Limits.{IsText}
use Rattle.json_genesis.proofs.Refusals.{NoneIs-text}
use Rattle.json_genesis.proofs.chaincodes.upgrade_policy.Goals as goal

pub returns-in-Some-clause-refused : goal.returns-in-Some-clause-refused
returns-in-Some-clause-refused c =
    IfErr-weaker c.policy.result _ _ (λ r none. NoneIs-text (λ text p. IsText c.args.orgs.now p text) _ _ r c.in-Some.ensures none) c.policy.ensures.refused
