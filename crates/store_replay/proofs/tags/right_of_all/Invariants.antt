use Rattle.std.proofs.Common.{◌≡◌, ◌++◌, map, drop}
use Rattle.endorsement_policy.proofs.RightOrgs.{right_in}
use Rattle.store_replay.specs.Tags.{orgs_kept, right_in_record}
use Rattle.store_replay.proofs.tags.right_of_all.Given as goal

abbrev pub invariant-loop-stored : goal.invariant-loop-stored
invariant-loop-stored g l =
    let orgs = orgs_kept l.rules (g.P.Past.kept l.past) in
    map (right_in orgs) l.envelopes.items ++ map (right_in_record orgs) (drop l.stored-index l.records) ≡ map (right_in_record orgs) l.records
