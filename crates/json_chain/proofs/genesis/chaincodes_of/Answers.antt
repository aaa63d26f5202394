use Rattle.std.proofs.Common.{refl, arith}
use Rattle.json_chain.specs.Genesis.{chaincode_json}
use Rattle.json_chain.proofs.Collecting.{one_pair_more}
use Rattle.json_chain.proofs.genesis.chaincodes_of.Goals as goal

pub loop-place-preserved : goal.loop-place-preserved
loop-place-preserved c =
    one_pair_more (chaincode_json c.args.rules.now.policies) _ _ _ _ _ _ c.index-chaincodes-place.result _ _ c.in_ok-push.ensures.items
    c.loop-place-test.true c.index-chaincodes-place.is (omega (arith, c.loop-place-test.true, c.requires.one_each)) refl c.in_ok-chaincode.ensures
    c.loop-place.invariant
