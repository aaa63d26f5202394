use Rattle.std.proofs.Common.{◌≡◌, IfOk, length, map, take, sym, subst}
use Rattle.endorsement_policy.specs.Endorsed.{right_orgs}
use Rattle.endorsement_policy.specs.Judge.{Judge, judges}
use Rattle.endorsement_policy.proofs.check.check_with_first.Goals as goal

pub check_each-answers-requires : goal.check_each-answers-requires
check_each-answers-requires c =
    let right = c.args.right.now in
    subst (λ (j : Judge). right ≡ take (length right) (map (right_orgs j.listed.orgs) c.args.envelopes.now)) (sym c.in_ok-judge.ensures) c.requires

pub returns : goal.returns
returns c =
    let checked = c.check_each-answers in
    subst (λ (j : Judge). IfOk checked.result (λ v. v.items ≡ map (judges j) c.args.envelopes.now)) c.in_ok-judge.ensures checked.ensures
