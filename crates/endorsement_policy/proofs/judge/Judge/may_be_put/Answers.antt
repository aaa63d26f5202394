use Rattle.std.proofs.Common.{◌≡◌, ◌∙◌, ◌&&◌, Bool, IfOk, Result, ap, subst}
use Rattle.std.specs.Result.{is_ok}
use Rattle.fab_types.specs.declared.definition.Definition.{Definition}
use Rattle.policy_language.specs.GoodSets.{Names}
use Rattle.endorsement_policy.specs.Endorsed.{Listed, org_names}
use Rattle.endorsement_policy.specs.Installed.{Installed, names_known, usable_by}
use Rattle.endorsement_policy.specs.Judge.{Judge}
use Rattle.endorsement_policy.specs.Membership.{with_standing}
use Rattle.endorsement_policy.proofs.judge.Judge.may_be_put.Goals as goal

-- the same by equal names, and where the same is installed
by_equal : {E : Type 0} (r : Result Bool E) (d : Definition) (i j : Installed) (ns ms : Names) → i ≡ j → ns ≡ ms →
    IfOk r (λ b. b ≡ (is_ok (usable_by i d) && names_known ns d)) → IfOk r (λ b. b ≡ (is_ok (usable_by j d) && names_known ms d))
by_equal r d i j ns ms installed names h =
    subst (λ (x : Names). IfOk r (λ b. b ≡ (is_ok (usable_by j d) && names_known x d))) names
    (subst (λ (x : Installed). IfOk r (λ b. b ≡ (is_ok (usable_by x d) && names_known ns d))) installed h)

pub returns : goal.returns
returns c =
    let listed = c.args.self.now.listed in
    let same : with_standing c.self.inside.rules.now c.self.inside.standing ≡ listed = ap (λ (j : Judge). j.listed) c.self.view_is in
    let installed : c.installed-installed.result.now ≡ listed.installed = c.installed-installed.ensures ∙ ap (λ (l : Listed). l.installed) same in
    let names : c.deref.result.now ≡ org_names listed.orgs =
    c.deref.ensures.value ∙ c.in_ok-names.ensures ∙ ap (λ (l : Listed). org_names l.orgs) same in
    by_equal c.may_be_put.result c.args.definition.now _ _ _ _ installed names c.may_be_put.ensures
