use Rattle.std.proofs.Common.{◌≡◌, List, IfOk, subst}
use Rattle.serde_json.specs.Data.{Data, array}
use Rattle.serde_json.specs.View.{items_of, view}
use Rattle.ledger_table.specs.Table.{all_names, name_json, name_row}
use Rattle.ledger_table.proofs.Rows.{as_table}
use Rattle.ledger_table.proofs.json.names.Goals as goal

pub returns : goal.returns
returns c =
    subst (λ (ds : List Data). IfOk c.list.result (λ v. view v ≡ array (items_of ds)))
    (as_table name_json name_row c.name_rows.result.now all_names c.name_rows.ensures) c.list.ensures
