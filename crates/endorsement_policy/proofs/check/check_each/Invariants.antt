use Rattle.std.proofs.Common.{◌≡◌, ◌++◌, map, drop}
use Rattle.endorsement_policy.specs.Judge.{judges}
use Rattle.endorsement_policy.proofs.check.check_each.Given as goal

abbrev pub invariant-loop-place : goal.invariant-loop-place
invariant-loop-place l = l.answers.items ++ map (judges l.judge) (drop l.place l.envelopes) ≡ map (judges l.judge) l.envelopes
