use Rattle.std.proofs.Common.{rules, ◌≡◌, Ok, Err, inr, refl, sym, subst}
use Rattle.peer_node.specs.Refusals.{of_memory}
use Rattle.peer_node.specs.Seats.{seen_chain, endorsing_of}
use Rattle.seat_threads.specs.Rounds.{Outcome, ComesTo}
use Rattle.seat_threads.proofs.Growing.{endorses_grows}
use Rattle.seat_threads.proofs.endorsing.envelope.Goals as goal

-- no memory for the envelope, behind an endorsement
pub returns-in_err-endorsements-clause-comes : goal.returns-in_err-endorsements-clause-comes
returns-in_err-endorsements-clause-comes c =
    let seat = c.args.seat.now in
    let before = seen_chain seat in
    let after = seen_chain c.endorse.new.self in
    let none : c.from_residual-in_err-endorsements.result ≡ Err of_memory = search rules in
    let grows = endorses_grows (endorsing_of seat) c.args.proposal.now before after (Ok (c.in_ok-payload.payload, c.in_ok-payload.endorsement))
    c.in_ok-payload.ensures.endorsed in
    subst (λ (o : Outcome). ComesTo (endorsing_of seat) c.args.proposal.now before after o) (sym none) (inr (refl, grows))
