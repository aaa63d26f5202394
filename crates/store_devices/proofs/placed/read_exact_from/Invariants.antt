use Rattle.std.proofs.Common.{◌≡◌, ◌≤◌, ◌-◌, IfSome, length, take, drop}
use Rattle.store_devices.proofs.placed.read_exact_from.Given as goal

abbrev pub invariant-loop-at : goal.invariant-loop-at
invariant-loop-at g l = record {
  within : l.at ≤ length l.buffer;
  size : length l.buffer ≡ length l.fn.buffer;
  filled : IfSome (g.D.Write.contents l.file) (λ held. take l.at l.buffer ≡ take l.at (drop l.place held));
}

abbrev pub decreases-loop-at : goal.decreases-loop-at
decreases-loop-at g l = length l.buffer - l.at
