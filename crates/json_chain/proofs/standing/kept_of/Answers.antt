use Rattle.json_chain.specs.Memberships.{kept_json}
use Rattle.json_chain.proofs.Collecting.{one_more}
use Rattle.json_chain.proofs.standing.kept_of.Goals as goal

pub loop-organisation-preserved : goal.loop-organisation-preserved
loop-organisation-preserved c =
    one_more kept_json _ _ _ _ _ c.organisation-item.result c.in_ok-push.ensures.items c.loop-organisation-test.true c.organisation-item.is
    c.in_ok-kept.ensures c.loop-organisation.invariant
