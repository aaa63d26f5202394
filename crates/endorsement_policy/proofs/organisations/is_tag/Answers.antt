use Rattle.std.proofs.Common.{Option, ap, ◌∙◌}
use Rattle.org_keys.specs.declared.organisation.Organisation.{Organisation}
use Rattle.endorsement_policy.specs.Endorsed.{is_tag_of}
use Rattle.endorsement_policy.proofs.organisations.is_tag.Goals as goal

pub returns-in-Some : goal.returns-in-Some
returns-in-Some c =
    c.is_right.ensures ∙ ap (λ (o : Option Organisation). is_tag_of o c.args.bytes.now c.args.endorsement.now.tag) c.in-Some.ensures

pub returns-in-None : goal.returns-in-None
returns-in-None c = ap (λ (o : Option Organisation). is_tag_of o c.args.bytes.now c.args.endorsement.now.tag) c.in-None.ensures
