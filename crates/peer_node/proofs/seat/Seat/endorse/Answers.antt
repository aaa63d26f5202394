use Rattle.std.proofs.Common.{rules, inr}
use mathlib.Core.List.{IsPrefix}
use Rattle.ledger_model.specs.Chain.{Chain}
use Rattle.peer_node.specs.Seats.{seen_chain, endorsing_of, FinishesBy}
use Rattle.peer_node.proofs.seat.Seat.endorse.Goals as goal

-- it was begun
pub returns-clause-endorsed : goal.returns-clause-endorsed
returns-clause-endorsed c =
    let old = c.args.self.now in
    let finished : (first : Chain) × IsPrefix (seen_chain old) first ×
    FinishesBy (endorsing_of old) c.args.proposal.now first first (seen_chain c.finish_begun.new.self) c.finish_begun.result = search rules in
    inr finished
