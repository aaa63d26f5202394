use Rattle.std.proofs.Common.{rules}
use Rattle.orderer.proofs.Picking.{range_more}
use Rattle.orderer.proofs.arrangement.as_cut.Goals as goal

pub loop-place-preserved : goal.loop-place-preserved
loop-place-preserved c = let more = range_more 0 c.loop-place.place in search rules
