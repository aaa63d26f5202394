use Rattle.std.proofs.Common.{◌≡◌, IfOk, map, subst}
use Rattle.endorsement_policy.specs.Endorsed.{is_endorsed}
use Rattle.endorsement_policy.proofs.check.check_plain.Goals as goal

pub returns : goal.returns
returns c =
    subst (λ m. IfOk c.check_plain_in.result (λ v. v.items ≡ map (is_endorsed c.args.rules.now m) c.args.envelopes.now)) c.map.ensures
    c.check_plain_in.ensures
