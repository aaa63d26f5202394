use Rattle.std.proofs.Common.{◌≡◌, ◌++◌, map, drop}
use Rattle.endorsement_policy.specs.Endorsed.{right_orgs}
use Rattle.endorsement_policy.proofs.tags.right_orgs_of_block.Given as goal

abbrev pub invariant-loop-envelope : goal.invariant-loop-envelope
invariant-loop-envelope l =
    l.right.items ++ map (right_orgs l.organisations) (drop l.envelope-index l.envelopes) ≡ map (right_orgs l.organisations) l.envelopes
