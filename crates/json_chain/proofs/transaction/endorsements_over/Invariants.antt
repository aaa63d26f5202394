use Rattle.std.proofs.Common.{◌≡◌, ◌++◌, map, drop}
use Rattle.serde_json.specs.View.{view}
use Rattle.json_chain.specs.Transactions.{endorsement_json}
use Rattle.json_chain.proofs.transaction.endorsements_over.Given as goal

abbrev pub invariant-loop-item : goal.invariant-loop-item
invariant-loop-item l =
    map view l.values.items ++ map (endorsement_json l.organisations l.bytes) (drop l.item-index l.items) ≡
    map (endorsement_json l.organisations l.bytes) l.items
