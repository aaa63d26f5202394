use Rattle.std.proofs.Common.{◌≡◌, IfOk, map, subst}
use Rattle.endorsement_policy.specs.Endorsed.{is_endorsed}
use Rattle.endorsement_policy.proofs.parallel.check_all.Goals as goal

pub returns : goal.returns
returns g c =
    subst (λ m. IfOk c.check_all_in.result (λ v. v.items ≡ map (is_endorsed c.args.rules.now m) c.args.envelopes.now)) c.map.ensures
    c.check_all_in.ensures
