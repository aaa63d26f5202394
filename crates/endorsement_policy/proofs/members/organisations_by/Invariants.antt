use Rattle.std.proofs.Common.{◌≡◌, ◌++◌, drop}
use Rattle.std.specs.Prelude.{◌&&◌}
use Rattle.std.specs.List.{list_all}
use Rattle.endorsement_policy.specs.Membership.{has_known_key, orgs_by}
use Rattle.endorsement_policy.proofs.members.organisations_by.Given as goal

abbrev pub invariant-loop-member : goal.invariant-loop-member
invariant-loop-member l =
    let is_known = has_known_key l.organisations in
    record {
      organisations : l.found.items ++ orgs_by l.organisations (drop l.member-index l.members) ≡ orgs_by l.organisations l.members;
      known : (l.are_known && list_all is_known (drop l.member-index l.members)) ≡ list_all is_known l.members;
    }
