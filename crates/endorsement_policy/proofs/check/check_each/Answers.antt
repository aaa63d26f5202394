use Rattle.std.proofs.Common.{arith}
use Rattle.endorsement_policy.specs.Endorsed.{right_orgs}
use Rattle.endorsement_policy.proofs.RightOrgs.{known_at}
use Rattle.endorsement_policy.proofs.check.check_each.Goals as goal

pub is_endorsed-requires : goal.is_endorsed-requires
is_endorsed-requires c =
    known_at (right_orgs c.args.judge.now.listed.orgs) c.args.right.now c.args.envelopes.now c.loop-place.place c.index-envelopes-place.result c.get-orgs.result
    c.requires (omega arith) c.index-envelopes-place.is c.get-orgs.ensures.lookup
