use Rattle.world_state.proofs.Blocks.{blocks_more}
use Rattle.world_state.proofs.shared_blocks.with_block.Goals as goal

pub returns : goal.returns
returns c =
    blocks_more c.args.blocks.now c.in_ok-longer.longer.items c.extend_with_clones.new.self.items c.push.new.self.items c.in_ok-new.field-0 c.args.block
    c.in_ok-longer.ensures.items c.in_ok-extend_with_clones.ensures.items c.in_ok-push.ensures.items c.in_ok-new.ensures.ok
