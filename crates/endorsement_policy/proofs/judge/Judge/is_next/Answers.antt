use Rattle.std.proofs.Common.{◌≡◌, ◌∙◌, Bool, IfOk, List, Option, Result, ap, subst}
use Rattle.std.specs.FinMap.{get}
use Rattle.fab_types.specs.Memberships.{membership_key}
use Rattle.fab_types.specs.declared.membership.Membership.{Membership}
use Rattle.ledger_model.specs.Chain.{Bytes}
use Rattle.org_keys.specs.declared.organisation.Organisation.{Organisation}
use Rattle.endorsement_policy.specs.Installed.{Installed}
use Rattle.endorsement_policy.specs.Listed.{Listed}
use Rattle.endorsement_policy.specs.Judge.{Judge, plain_in}
use Rattle.endorsement_policy.specs.Membership.{is_next, with_standing}
use Rattle.endorsement_policy.proofs.judge.Judge.is_next.Goals as goal

-- the same by equal organisations and equal values
by_equal : {E : Type 0} (r : Result Bool E) (s : Membership) (os ps : List Organisation) (v w : Option Bytes) → os ≡ ps → v ≡ w →
    IfOk r (λ t. t ≡ is_next os v s) → IfOk r (λ t. t ≡ is_next ps w s)
by_equal r s os ps v w orgs value h =
    subst (λ (x : Option Bytes). IfOk r (λ t. t ≡ is_next ps x s)) value (subst (λ (x : List Organisation). IfOk r (λ t. t ≡ is_next x v s)) orgs h)

pub returns : goal.returns
returns c =
    let listed = c.args.self.now.listed in
    let same : with_standing c.self.inside.rules.now c.self.inside.standing ≡ listed = ap (λ (j : Judge). j.listed) c.self.view_is in
    let orgs : c.organisations-organisations.result.now ≡ listed.installed.orgs =
    c.organisations-organisations.ensures ∙ ap (λ (i : Installed). i.orgs) c.installed.ensures ∙ ap (λ (l : Listed). l.installed.orgs) same in
    let value = c.value_of_membership-value.ensures ∙ ap (λ (j : Judge). get (plain_in j.entries) membership_key) c.self.view_is in
    by_equal c.is_next.result c.args.membership.now _ _ _ _ orgs value c.is_next.ensures
