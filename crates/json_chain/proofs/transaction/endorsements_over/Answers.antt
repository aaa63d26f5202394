use Rattle.json_chain.specs.Transactions.{endorsement_json}
use Rattle.json_chain.proofs.Collecting.{one_more}
use Rattle.json_chain.proofs.transaction.endorsements_over.Goals as goal

pub loop-item-preserved : goal.loop-item-preserved
loop-item-preserved c =
    one_more (endorsement_json c.args.organisations.now c.args.bytes.now) _ _ _ _ _ c.item-item.result c.in_ok-push.ensures.items c.loop-item-test.true
    c.item-item.is c.in_ok-endorsement_of.ensures c.loop-item.invariant
