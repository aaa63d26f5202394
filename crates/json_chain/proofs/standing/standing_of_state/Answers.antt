use Rattle.std.proofs.Common.{◌≡◌, IfOk, Option, Some, None, ap, sym, subst, ◌∙◌}
use Rattle.std.specs.FinMap.{get}
use Rattle.serde_json.specs.View.{view}
use Rattle.fab_types.specs.Memberships.{membership_key}
use Rattle.fab_types.specs.declared.membership.Membership.{Membership}
use Rattle.endorsement_policy.specs.Installed.{Installed}
use Rattle.endorsement_policy.specs.Judge.{plain_in}
use Rattle.endorsement_policy.specs.Membership.{usable_membership}
use Rattle.endorsement_policy.proofs.Stands.{found_in}
use Rattle.json_chain.specs.Memberships.{standing_json}
use Rattle.json_chain.proofs.standing.standing_of_state.Goals as goal

pub returns-in-Some : goal.returns-in-Some
returns-in-Some c =
    let r = c.args.rules.now in
    let state = plain_in c.args.state.now.entries in
    let orgs = c.organisations-organisations.ensures ∙ ap (λ (i : Installed). i.orgs) c.installed.ensures in
    let found = found_in r state _ _ c.in_ok-found.found orgs c.value_of_membership.ensures c.in_ok-found.ensures in
    let there : usable_membership r.installed.orgs (get state membership_key) ≡ Some c.in-Some.membership = sym found ∙ c.in-Some.is in
    subst (λ (o : Option Membership). IfOk c.to_json.result (λ v. view v ≡ standing_json r o)) (sym there) c.to_json.ensures

pub returns-in-None : goal.returns-in-None
returns-in-None c =
    let r = c.args.rules.now in
    let state = plain_in c.args.state.now.entries in
    let orgs = c.organisations-organisations.ensures ∙ ap (λ (i : Installed). i.orgs) c.installed.ensures in
    let found = found_in r state _ _ c.in_ok-found.found orgs c.value_of_membership.ensures c.in_ok-found.ensures in
    let there : usable_membership r.installed.orgs (get state membership_key) ≡ None = sym found ∙ c.in-None.is in
    subst (λ (o : Option Membership). IfOk c.listed_of.result (λ v. view v ≡ standing_json r o)) (sym there) c.listed_of.ensures
