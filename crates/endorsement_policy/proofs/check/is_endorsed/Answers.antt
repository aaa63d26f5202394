use Rattle.std.proofs.Common.{◌≡◌, IfOk, subst}
use Rattle.endorsement_policy.specs.Endorsed.{is_endorsed}
use Rattle.endorsement_policy.proofs.check.is_endorsed.Goals as goal

pub returns : goal.returns
returns c =
    subst (λ m. IfOk c.is_endorsed_in.result (λ b. b ≡ is_endorsed c.args.rules.now m c.args.envelope.now)) c.map.ensures
    c.is_endorsed_in.ensures
