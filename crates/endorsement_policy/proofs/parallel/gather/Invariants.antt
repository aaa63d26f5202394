use Rattle.std.proofs.Common.{map, ◌≡◌, take}
use Rattle.endorsement_policy.specs.Judge.{judges}
use Rattle.endorsement_policy.proofs.parallel.gather.Given as goal

abbrev pub invariant-loop-index : goal.invariant-loop-index
invariant-loop-index l = l.answers.items ≡ take l.index (map (judges l.judge) l.envelopes)
