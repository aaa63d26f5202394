use Rattle.std.proofs.lemmas.Result.{err_from_is_err_and}
use Rattle.peer_node.proofs.seat.endorse_on.Goals as goal

pub returns-in_err-endorse_payload-clause-refused : goal.returns-in_err-endorse_payload-clause-refused
returns-in_err-endorse_payload-clause-refused c =
    let p = err_from_is_err_and c.from_residual.result c.from_residual.ensures.1 in
    rw (p.1, p.2) c.in_err-endorse_payload.ensures.refused

pub returns-clause-endorsed : goal.returns-clause-endorsed
returns-clause-endorsed c = c.in_ok-endorse_payload.ensures.endorsed
