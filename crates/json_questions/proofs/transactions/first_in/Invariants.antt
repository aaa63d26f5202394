use Rattle.std.proofs.Common.{◌≡◌, drop}
use Rattle.std.specs.List.{find}
use Rattle.ledger_model.specs.Chain.{transactions_from}
use Rattle.json_questions.specs.Answers.{has_id}
use Rattle.json_questions.proofs.transactions.first_in.Given as goal

abbrev pub invariant-loop-place : goal.invariant-loop-place
invariant-loop-place l =
    find (has_id l.id) (transactions_from l.number l.place (drop l.place l.envelopes) (drop l.place l.flags))
    ≡ find (has_id l.id) (transactions_from l.number 0 l.envelopes l.flags)
