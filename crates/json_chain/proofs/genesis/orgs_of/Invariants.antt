use Rattle.std.proofs.Common.{◌≡◌, ◌++◌, map, drop}
use Rattle.serde_json.specs.View.{view}
use Rattle.json_chain.specs.Genesis.{org_json}
use Rattle.json_chain.proofs.genesis.orgs_of.Given as goal

abbrev pub invariant-loop-name : goal.invariant-loop-name
invariant-loop-name l =
    map view l.values.items ++ map (org_json l.rules.orgs) (drop l.name-index l.names) ≡ map (org_json l.rules.orgs) l.names
