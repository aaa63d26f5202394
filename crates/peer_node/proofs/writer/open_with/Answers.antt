use Rattle.snapshot_cell.specs.Seats.{cell_of_writer}
use Rattle.peer_node.proofs.writer.open_with.Goals as goal

pub returns-in-Ok-clause-seats : goal.returns-in-Ok-clause-seats
returns-in-Ok-clause-seats g c =
    c.in-Ok.ensures.each (cell_of_writer c.in_ok-cell.cell) c.args.first c.in_ok-cell.ensures.seats.1
