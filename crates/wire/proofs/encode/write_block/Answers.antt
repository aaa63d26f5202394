use Rattle.wire.proofs.BlockLaws.{block_made}
use Rattle.wire.proofs.encode.write_block.Goals as goal

pub returns-clause-size : goal.returns-clause-size
returns-clause-size c = block_made c.write_data.result c.args.block.now c.in_ok-write.ensures.within c.write_data.ensures.within
