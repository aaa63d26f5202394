use Rattle.std.proofs.Common.{◌≡◌, ◌*◌, ◌%◌, ◌^◌}
use Rattle.edwards_model.specs.Curve.{order}
use Rattle.ed25519.proofs.scalar.Scalar.followed_by.Given as goal

abbrev pub invariant-loop : goal.invariant-loop
invariant-loop l = l.x ≡ 2 ^ l.counter * l.self % order
