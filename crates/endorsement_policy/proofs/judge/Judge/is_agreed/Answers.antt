use Rattle.std.proofs.Common.{◌≡◌, ◌∙◌, IfOk, ap, subst}
use Rattle.policy_language.specs.GoodSets.{is_satisfied}
use Rattle.policy_language.specs.declared.policy.Policy.{Policy}
use Rattle.endorsement_policy.specs.Endorsed.{Listed, right_orgs}
use Rattle.endorsement_policy.specs.Judge.{Judge}
use Rattle.endorsement_policy.specs.Membership.{with_standing}
use Rattle.endorsement_policy.proofs.judge.Judge.is_agreed.Goals as goal

pub returns : goal.returns
returns c =
    let listed = c.args.self.now.listed in
    let envelope = c.args.envelope.now in
    let same : with_standing c.self.inside.rules.now c.self.inside.standing ≡ listed = ap (λ (j : Judge). j.listed) c.self.view_is in
    let policy : c.upgrade.result.now ≡ listed.upgrade = c.upgrade.ensures ∙ ap (λ (l : Listed). l.upgrade) same in
    subst (λ (p : Policy). IfOk c.is_met_by.result (λ b. b ≡ is_satisfied p (right_orgs listed.orgs envelope))) policy
    (subst (λ (l : Listed). IfOk c.is_met_by.result (λ b. b ≡ is_satisfied c.upgrade.result.now (right_orgs l.orgs envelope))) same c.is_met_by.ensures)
