use Rattle.std.proofs.Common.{◌≡◌, ◌++◌, map, drop}
use Rattle.serde_json.specs.View.{view}
use Rattle.ledger_table.proofs.json.list.Given as goal

abbrev pub invariant-loop-row : goal.invariant-loop-row
invariant-loop-row g l = map view l.values.items ++ map g.R.Row.json (drop l.row-index l.rows) ≡ map g.R.Row.json l.rows
