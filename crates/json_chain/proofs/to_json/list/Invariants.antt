use Rattle.std.proofs.Common.{◌≡◌, ◌++◌, map, drop}
use Rattle.serde_json.specs.View.{view}
use Rattle.json_chain.proofs.to_json.list.Given as goal

abbrev pub invariant-loop-item : goal.invariant-loop-item
invariant-loop-item g l = map view l.values.items ++ map g.T.ToJson.json (drop l.item-index l.items) ≡ map g.T.ToJson.json l.items
