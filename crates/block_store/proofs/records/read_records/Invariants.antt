use Rattle.std.proofs.Common.{◌≤◌, ◌-◌, ◌++◌, List, drop, length}
use Rattle.fab_types.specs.Committed.{Committed}
use Rattle.block_store.specs.Progress.{Progress, Reads}
use Rattle.block_store.proofs.records.read_records.Given as goal

abbrev pub invariant-loop-records : goal.invariant-loop-records
invariant-loop-records l = record {
  reads : (cs : List Committed) (q : Progress) → Reads l.number (drop l.at l.bytes) cs q → Reads l.next l.bytes (l.records.items ++ cs) q;
  at : l.at ≤ length l.bytes;
  number : l.number ≤ 4000000001;
}

abbrev pub decreases-loop-records : goal.decreases-loop-records
decreases-loop-records l = length l.bytes - l.at
