use Rattle.std.proofs.Common.{◌≡◌, ◌++◌, drop}
use Rattle.endorsement_policy.specs.Membership.{member_names}
use Rattle.endorsement_policy.proofs.membership.member_names.Given as goal

abbrev pub invariant-loop-member : goal.invariant-loop-member
invariant-loop-member l = l.names.items ++ member_names (drop l.member-index l.members) ≡ member_names l.members
