use Rattle.std.proofs.Common.{◌≡◌, take}
use Rattle.world_state.specs.Shared.{blocks_in}
use Rattle.snapshot_cell.proofs.opening.reach.Given as goal

abbrev pub invariant-loop-block : goal.invariant-loop-block
invariant-loop-block l = (l.front.seen.log ≡ blocks_in (take l.block-index l.blocks)) × (l.front.seen.book ≡ l.fn.front.seen.book)
