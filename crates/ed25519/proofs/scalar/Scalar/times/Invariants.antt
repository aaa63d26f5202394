use Rattle.std.proofs.Common.{◌≡◌, ◌+◌, ◌-◌, ◌*◌, ◌%◌, ◌^◌, ◌<◌}
use Rattle.edwards_model.specs.Curve.{order}
use Rattle.ed25519.proofs.scalar.Scalar.times.Given as goal

abbrev pub invariant-loop : goal.invariant-loop
invariant-loop l = record {
  small : l.bits < 2 ^ (256 - l.counter);
  below : l.sum < order;
  kept : (l.sum + l.multiple * l.bits) % order ≡ l.self * l.number % order;
}
