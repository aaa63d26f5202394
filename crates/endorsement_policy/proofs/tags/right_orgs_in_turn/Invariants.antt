use Rattle.std.proofs.Common.{◌≡◌, ◌++◌, map, drop}
use Rattle.endorsement_policy.proofs.RightOrgs.{found_in, right_in}
use Rattle.endorsement_policy.proofs.tags.right_orgs_in_turn.Given as goal

abbrev pub invariant-loop-block : goal.invariant-loop-block
invariant-loop-block l = map found_in l.all.items ++ map (right_in l.organisations) (drop l.block-index l.blocks) ≡ map (right_in l.organisations) l.blocks
