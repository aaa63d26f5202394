use Rattle.json_chain.proofs.Collecting.{one_more}
use Rattle.json_chain.proofs.to_json.list.Goals as goal

pub loop-item-preserved : goal.loop-item-preserved
loop-item-preserved g c =
    one_more g.T.ToJson.json _ _ _ _ _ c.item-item.result c.in_ok-push.ensures.items c.loop-item-test.true c.item-item.is c.in_ok-to_json.ensures
    c.loop-item.invariant
