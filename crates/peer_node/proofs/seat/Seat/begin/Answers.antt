use Rattle.std.proofs.Common.{rules}
use Rattle.peer_node.proofs.seat.Seat.begin.Goals as goal

pub returns-clause-begun : goal.returns-clause-begun
returns-clause-begun c =
    let taken = c.in_ok-snapshot.ensures.taken in
    (search rules, taken.0, taken.1)
