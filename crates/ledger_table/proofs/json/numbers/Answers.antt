use Rattle.std.proofs.Common.{◌≡◌, List, IfOk, subst}
use Rattle.serde_json.specs.Data.{Data, array}
use Rattle.serde_json.specs.View.{items_of, view}
use Rattle.ledger_table.specs.Table.{all_numbers, number_json, number_row}
use Rattle.ledger_table.proofs.Rows.{as_table}
use Rattle.ledger_table.proofs.json.numbers.Goals as goal

pub returns : goal.returns
returns c =
    subst (λ (ds : List Data). IfOk c.list.result (λ v. view v ≡ array (items_of ds)))
    (as_table number_json number_row c.number_rows.result.now all_numbers c.number_rows.ensures) c.list.ensures
