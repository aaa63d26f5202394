use Rattle.std.proofs.Common.{◌≡◌, ◌++◌, map, drop}
use Rattle.serde_json.specs.View.{view}
use Rattle.json_chain.specs.Genesis.{chaincodes_json}
use Rattle.json_chain.proofs.genesis.chaincodes_of.Given as goal

abbrev pub invariant-loop-place : goal.invariant-loop-place
invariant-loop-place l =
    map view l.values.items ++ chaincodes_json l.rules.policies (drop l.place l.chaincodes) (drop l.place l.ids)
    ≡ chaincodes_json l.rules.policies l.chaincodes l.ids
