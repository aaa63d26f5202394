use Rattle.std.proofs.Common.{◌≡◌, ◌-◌, drop}
use Rattle.field25519.specs.Bytes.{number}
use Rattle.edwards_model.specs.Curve.{multiple}
use Rattle.edwards25519.proofs.point.Point.times.Given as goal

abbrev pub invariant-loop-place : goal.invariant-loop-place
invariant-loop-place l = l.sum ≡ multiple (number (drop (32 - l.place) l.bytes)) l.self
