use Rattle.std.proofs.Common.{◌≡◌, true, false, Some, None, refl, sym, ◌∙◌}
use Rattle.endorsement_policy.specs.Membership.{is_usable}
use Rattle.endorsement_policy.proofs.Stands.{usable_by}
use Rattle.endorsement_policy.proofs.membership.usable_membership.Goals as goal

pub returns-in_default : goal.returns-in_default
returns-in_default c = sym (usable_by c.args.organisations.now _ None (sym c.in_default.is ∙ c.in_ok-membership.ensures) None refl)

pub returns-then-not-branch : goal.returns-then-not-branch
returns-then-not-branch c =
    let membership = c.in-Some.membership in
    let wrong : is_usable c.args.organisations.now membership ≡ false = sym c.in_ok-is_usable.ensures ∙ c.if-not-branch.true in
    sym (usable_by c.args.organisations.now _ (Some membership) (sym c.in-Some.is ∙ c.in_ok-membership.ensures) None (rw wrong refl))

pub returns : goal.returns
returns c =
    let membership = c.in-Some.membership in
    let right : is_usable c.args.organisations.now membership ≡ true = sym c.in_ok-is_usable.ensures ∙ c.if-not-branch.false in
    sym (usable_by c.args.organisations.now _ (Some membership) (sym c.in-Some.is ∙ c.in_ok-membership.ensures) (Some membership) (rw right refl))
