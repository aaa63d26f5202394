use Rattle.std.proofs.Common.{rules, ◌≡◌, subst}
use Rattle.std.specs.Arc.{arc_value}
use Rattle.ledger_model.specs.Chain.{Chain}
use Rattle.peer_node.specs.Seats.{seen_chain, endorsing_of, FinishesBy}
use Rattle.peer_node.proofs.seat.Seat.finish.Goals as goal

pub returns-clause-finished : goal.returns-clause-finished
returns-clause-finished c =
    let old = c.args.self.now in
    let begun = c.args.begun in
    let shown : c.deref.result.now ≡ arc_value begun.snapshot = search rules in
    subst
    (λ (first : Chain). FinishesBy (endorsing_of old) begun.proposal first (seen_chain old) (seen_chain c.finish_begun.new.self) c.finish_begun.result)
    shown c.finish_begun.ensures.finished
