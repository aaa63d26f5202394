use Rattle.std.proofs.Common.{◌≡◌, ◌++◌, map, drop}
use Rattle.serde_json.specs.View.{view}
use Rattle.json_chain.specs.Blocks.{transactions_json}
use Rattle.json_chain.proofs.block.transactions_of.Given as goal

abbrev pub invariant-loop-place : goal.invariant-loop-place
invariant-loop-place l =
    map view l.values.items ++ transactions_json l.organisations (drop l.place l.envelopes) (drop l.place l.flags) ≡
    transactions_json l.organisations l.envelopes l.flags
