use Rattle.std.proofs.Common.{◌≡◌}
use Rattle.edwards25519.proofs.Digits.{row_until}
use Rattle.edwards25519.proofs.comb.row_for.Given as goal

abbrev pub invariant-loop-place : goal.invariant-loop-place
invariant-loop-place l = l.row ≡ row_until l.place l.digit l.rows
