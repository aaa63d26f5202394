use Rattle.std.proofs.Common.{◌≡◌, ◌≤◌, ◌+◌, All, length}
use Rattle.std.specs.Prelude.{vec_capacity}
use Rattle.logbook.specs.Pages.{Book}
use Rattle.snapshot_cell.specs.Seats.{EachBegins}
use Rattle.ledger_model.specs.Chain.{Chain}
use Rattle.peer_node.specs.Seats.{IsSeatBehind, endorsing_for}
use Rattle.peer_node.proofs.writer.seats_of.Given as goal

abbrev pub invariant-loop-seat : goal.invariant-loop-seat
invariant-loop-seat l =
    (length l.seats.items ≡ l._seat) × (length l.readers.items + l._seat ≡ length l.fn.readers.items)
    × (length l.fn.readers.items ≤ vec_capacity l.seats)
    × ((peer : Book) (chain : Chain) → EachBegins peer chain l.fn.readers.items
    → EachBegins peer chain l.readers.items × All (IsSeatBehind (endorsing_for l.genesis l.org) peer chain) l.seats.items)
