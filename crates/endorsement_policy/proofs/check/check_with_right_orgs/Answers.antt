use Rattle.std.proofs.Common.{◌≡◌, ◌∙◌, IfOk, map, ap, sym, subst}
use Rattle.ledger_model.specs.Views.{values_of}
use Rattle.endorsement_policy.specs.Endorsed.{is_endorsed, right_orgs}
use Rattle.endorsement_policy.specs.Membership.{listed_in}
use Rattle.endorsement_policy.proofs.check.check_with_right_orgs.Goals as goal

pub check_with_right_orgs_in-requires : goal.check_with_right_orgs_in-requires
check_with_right_orgs_in-requires c =
    c.requires ∙ ap (λ m. map (right_orgs (listed_in c.args.rules.now (values_of m)).orgs) c.args.envelopes.now) (sym c.map.ensures)

pub returns : goal.returns
returns c =
    subst (λ m. IfOk c.check_with_right_orgs_in.result (λ v. v.items ≡ map (is_endorsed c.args.rules.now m) c.args.envelopes.now)) c.map.ensures
    c.check_with_right_orgs_in.ensures
