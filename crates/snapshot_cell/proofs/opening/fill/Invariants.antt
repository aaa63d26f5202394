use Rattle.std.proofs.Common.{◌≡◌, length}
use Rattle.left_right.specs.Sides.{view}
use Rattle.snapshot_cell.specs.Knowing.{knowing}
use Rattle.snapshot_cell.specs.Seats.{EachBegins}
use Rattle.snapshot_cell.proofs.opening.fill.Given as goal

abbrev pub invariant-loop-seat : goal.invariant-loop-seat
invariant-loop-seat l =
    (length l.readers.items ≡ l._seat) × EachBegins l.front.seen.book l.front.seen.log l.readers.items × (view l.inner.desk.place ≡ knowing l.front.seen.book)
    × (l.inner.desk.shown.value ≡ l.fn.inner.desk.shown.value) × (l.inner.log ≡ l.fn.inner.log) × (l.inner.behind ≡ l.fn.inner.behind)
