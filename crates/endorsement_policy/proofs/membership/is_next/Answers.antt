use Rattle.std.proofs.Common.{◌≡◌, ◌+◌, true, eqb, eq-eqb, sym, ap, ◌∙◌, option_map}
use Rattle.endorsement_policy.specs.Membership.{serial_of, usable_membership}
use Rattle.endorsement_policy.proofs.membership.is_next.Goals as goal

pub returns-in_ok-is_usable : goal.returns-in_ok-is_usable
returns-in_ok-is_usable c =
    let serial = c.args.membership.now.serial in
    let standing = serial_of (usable_membership c.args.organisations.now (option_map (λ v. v.now) c.args.value)) in
    let follows : eqb serial (standing + 1) ≡ true =
    eq-eqb serial (standing + 1) (sym c.from.ensures ∙ c.if-follows.true ∙ ap (λ n. n + 1) (c.from-2.ensures ∙ c.in_ok-serial.ensures)) in
    rw follows c.in_ok-is_usable.ensures
