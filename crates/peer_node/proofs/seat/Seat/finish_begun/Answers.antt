use Rattle.std.proofs.Common.{rules, ◌≡◌, Ok}
use Rattle.peer_node.specs.Seats.{endorsing_of, simulated_on}
use Rattle.peer_node.proofs.seat.Seat.finish_begun.Goals as goal

pub returns-in-Err-clause-finished : goal.returns-in-Err-clause-finished
returns-in-Err-clause-finished c =
    let e = endorsing_of c.args.self.now in
    let p = c.args.proposal.now in
    let first = c.args.first.now in
    let done : simulated_on e p first ≡ Ok c.in_ok-payload.payload = search rules in
    c.in-Err.ensures.refused e p first done
