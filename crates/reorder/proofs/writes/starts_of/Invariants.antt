use Rattle.std.proofs.Common.{◌≡◌, ℕ, ◌<◌, ◌≤◌, length, get_or}
use Rattle.reorder.specs.declared.writes.KeyWrite.{KeyWrite}
use Rattle.reorder.specs.KeyWrites.{IsFirstFrom}
use Rattle.reorder.proofs.Starts.{IsRun}
use Rattle.reorder.proofs.writes.starts_of.Given as goal

abbrev pub invariant-loop-i : goal.invariant-loop-i
invariant-loop-i l = record {
  long : length l.starts.items ≡ l.i;
  run : IsRun l.index l.start l.i;
  upto : (k : ℕ) → k < l.i → get_or l.starts.items k 0 ≤ k;
  first : (k : ℕ) → k < l.i → (d : KeyWrite) → IsFirstFrom (get_or l.index k d).key.now l.index (get_or l.starts.items k 0);
}
