use Rattle.std.proofs.Common.{◌≡◌, ◌≤◌, ◌<◌, ◌-◌, ◌*◌, false, List, length}
use Rattle.fab_types.specs.Committed.{Committed}
use Rattle.block_store.proofs.Reading.{HasRead}
use Rattle.block_store.proofs.Left.{Took}
use Rattle.block_store.proofs.sinking.read_by.Given as goal

abbrev pub invariant-pieces : goal.invariant-pieces
invariant-pieces g l = record {
  cs : List Committed;
  took_in : g.S.RecordSink.Took l.sink cs;
  context : g.S.RecordSink.context l.sink ≡ g.S.RecordSink.context l.fn.sink;
  taken : HasRead (g.R.CountedRead.taken l.fn.reader) (g.R.CountedRead.taken l.reader) cs l.records;
  took : Took (g.R.CountedRead.taken l.fn.reader) (g.R.CountedRead.taken l.reader) (g.R.CountedRead.remaining l.fn.reader) (g.R.CountedRead.remaining l.reader);
  failures : g.R.CountedRead.failures l.reader ≡ g.R.CountedRead.failures l.fn.reader;
  goes_on : l.records.is_damaged ≡ false;
  next : l.records.next ≤ 4000000001;
  held : length l.records.held < 526954;
}

abbrev pub decreases-pieces : goal.decreases-pieces
decreases-pieces g l = (4000000002 - l.records.next) * 526954 - length l.records.held
