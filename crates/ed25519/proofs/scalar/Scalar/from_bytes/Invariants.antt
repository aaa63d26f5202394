use Rattle.std.proofs.Common.{◌≡◌, ◌-◌, ◌%◌, drop}
use Rattle.field25519.specs.Bytes.{number}
use Rattle.edwards_model.specs.Curve.{order}
use Rattle.ed25519.proofs.scalar.Scalar.from_bytes.Given as goal

abbrev pub invariant-loop-place : goal.invariant-loop-place
invariant-loop-place l = l.all ≡ number (drop (64 - l.place) l.bytes) % order
