use Rattle.json_chain.specs.Genesis.{org_json}
use Rattle.json_chain.proofs.Collecting.{one_more}
use Rattle.json_chain.proofs.genesis.orgs_of.Goals as goal

pub loop-name-preserved : goal.loop-name-preserved
loop-name-preserved c =
    one_more (org_json c.args.rules.now.orgs) _ _ _ _ _ c.name-item.result c.in_ok-push.ensures.items c.loop-name-test.true c.name-item.is
    c.in_ok-org_of.ensures c.loop-name.invariant
