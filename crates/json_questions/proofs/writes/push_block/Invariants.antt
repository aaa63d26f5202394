use Rattle.std.proofs.Common.{◌≡◌, ◌++◌, map, drop}
use Rattle.serde_json.specs.View.{view}
use Rattle.ledger_model.specs.Chain.{transactions_from}
use Rattle.json_chain.specs.Writes.{writes_json}
use Rattle.json_questions.proofs.writes.push_block.Given as goal

abbrev pub invariant-loop-place : goal.invariant-loop-place
invariant-loop-place l =
    map view l.values.items ++ writes_json l.key (transactions_from l.number l.place (drop l.place l.envelopes) (drop l.place l.flags))
    ≡ map view l.fn.values.items ++ writes_json l.key (transactions_from l.number 0 l.envelopes l.flags)
