use Rattle.std.proofs.Common.{◌∙◌}
use Rattle.world_state.proofs.Placed.{found_alike}
use Rattle.world_state.proofs.index.block_in.Goals as goal

pub returns : goal.returns
returns c = c.copied.ensures ∙ c.get.ensures ∙ found_alike c.args.ids.now.entries c.args.id.now
