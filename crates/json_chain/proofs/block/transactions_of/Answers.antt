use Rattle.std.proofs.Common.{refl, arith}
use Rattle.ledger_model.specs.Chain.{Valid}
use Rattle.json_chain.specs.Transactions.{transaction_json}
use Rattle.json_chain.proofs.Collecting.{one_pair_more}
use Rattle.json_chain.proofs.block.transactions_of.Goals as goal

pub loop-place-preserved : goal.loop-place-preserved
loop-place-preserved c =
    one_pair_more (transaction_json c.args.organisations.now) _ _ _ _ _ _ c.index-envelopes-place.result _ Valid c.in_ok-push.ensures.items
    c.loop-place-test.true c.index-envelopes-place.is (omega (arith, c.loop-place-test.true, c.requires.one_each)) refl c.in_ok-transaction.ensures
    c.loop-place.invariant
