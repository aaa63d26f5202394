use Rattle.std.proofs.Common.{arith}
use Rattle.endorsement_policy.proofs.RightOrgs.{found_in, more_blocks, right_in}
use Rattle.endorsement_policy.proofs.tags.right_orgs_in_turn.Goals as goal

pub loop-block-preserved : goal.loop-block-preserved
loop-block-preserved c =
    rw c.in_ok-push.ensures.items (more_blocks found_in (right_in c.args.organisations.now) c.loop-block.all.items c.args.blocks.now c.loop-block.block-index
    c.block-item.result _ (omega arith) c.block-item.is c.in_ok-right_orgs_of_block.ensures c.loop-block.invariant)
