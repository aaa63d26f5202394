use Rattle.ledger_table.proofs.Rows.{one_more}
use Rattle.ledger_table.proofs.json.list.Goals as goal

pub loop-row-preserved : goal.loop-row-preserved
loop-row-preserved g c =
    one_more g.R.Row.json _ _ _ _ _ c.row-item.result c.in_ok-push.ensures.items c.loop-row-test.true c.row-item.is c.in_ok-to_json.ensures
    c.loop-row.invariant
