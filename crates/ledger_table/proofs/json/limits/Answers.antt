use Rattle.std.proofs.Common.{◌≡◌, List, IfOk, subst}
use Rattle.serde_json.specs.Data.{Data, array}
use Rattle.serde_json.specs.View.{items_of, view}
use Rattle.ledger_table.specs.Table.{all_limits, limit_json, limit_row}
use Rattle.ledger_table.proofs.Rows.{as_table}
use Rattle.ledger_table.proofs.json.limits.Goals as goal

pub returns : goal.returns
returns c =
    subst (λ (ds : List Data). IfOk c.list.result (λ v. view v ≡ array (items_of ds)))
    (as_table limit_json limit_row c.limit_rows.result.now all_limits c.limit_rows.ensures) c.list.ensures
