use Rattle.std.proofs.Common.{rules, ◌≡◌, ◌∙◌, Err, inr, refl, sym, ap, subst}
use Rattle.fab_types.specs.declared.proposal.Proposal.{Proposal}
use Rattle.peer_node.specs.Refusals.{of_memory}
use Rattle.peer_node.specs.Seats.{seen_chain, endorsing_of}
use Rattle.snapshot_cell.proofs.Fronts.{prefix_self}
use Rattle.seat_threads.specs.Rounds.{Outcome, proposal_of, ComesTo}
use Rattle.seat_threads.proofs.worker.Worker.endorse.Goals as goal

pub returns-in_err-proposal-clause-comes : goal.returns-in_err-proposal-clause-comes
returns-in_err-proposal-clause-comes c =
    let seat = c.args.self.now.seat in
    let seen = seen_chain seat in
    let none : c.from_residual.result ≡ Err of_memory = search rules in
    subst (λ (o : Outcome). ComesTo (endorsing_of seat) (proposal_of c.args.self.now.chaincode c.args.self.now.number c.args.round) seen seen o) (sym none)
    (inr (refl, prefix_self seen))

pub returns-clause-comes : goal.returns-clause-comes
returns-clause-comes c =
    let seat = c.args.self.now.seat in
    let round : c.from.result ≡ c.args.round = search rules in
    let proposed = c.in_ok-proposal.ensures ∙ ap (proposal_of c.args.self.now.chaincode c.args.self.now.number) round in
    subst (λ (p : Proposal). ComesTo (endorsing_of seat) p (seen_chain seat) (seen_chain c.envelope.new.seat) c.envelope.result) proposed
    c.envelope.ensures.comes
