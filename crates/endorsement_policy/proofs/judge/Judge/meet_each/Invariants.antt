use Rattle.std.proofs.Common.{◌≡◌}
use Rattle.endorsement_policy.proofs.judge.Judge.meet_each.Given as goal

abbrev pub invariant-loop-envelope : goal.invariant-loop-envelope
invariant-loop-envelope l = l.self ≡ l.initial.self
