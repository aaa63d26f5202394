use Rattle.std.proofs.Common.{◌≡◌, map, drop, ◌++◌}
use Rattle.std.specs.Prelude.{filter}
use Rattle.endorsement_policy.specs.Endorsed.{right_orgs, is_right}
use Rattle.endorsement_policy.proofs.tags.right_orgs.Given as goal

abbrev pub invariant-loop-endorsement : goal.invariant-loop-endorsement
invariant-loop-endorsement l =
    l.names.items ++ map (λ e. e.org) (filter (is_right l.organisations l.envelope.payload) (drop l.endorsement-index l.endorsement-items)) ≡
    right_orgs l.organisations l.envelope
