use Rattle.std.proofs.Common.{◌≡◌, IfOk, subst}
use Rattle.std.specs.FinMap.{get}
use Rattle.serde_json.specs.View.{view}
use Rattle.fab_types.specs.Memberships.{membership_key}
use Rattle.ledger_model.specs.Views.{values_of}
use Rattle.endorsement_policy.specs.Membership.{usable_membership}
use Rattle.json_chain.specs.Memberships.{standing_json}
use Rattle.json_chain.proofs.standing.standing_of.Goals as goal

pub returns : goal.returns
returns c =
    let r = c.args.rules.now in
    subst (λ m. IfOk c.standing_of_state.result (λ v. view v ≡ standing_json r (usable_membership r.installed.orgs (get (values_of m) membership_key))))
    c.map.ensures c.standing_of_state.ensures
