use Rattle.std.proofs.Common.{◌≡◌, None, option_map, drop}
use Rattle.world_state.specs.Shared.{blocks_in}
use Rattle.json_chain.specs.Standing.{membership_behind}
use Rattle.json_chain.proofs.amending.membership_behind.Given as goal

abbrev pub invariant-loop-committed : goal.invariant-loop-committed
invariant-loop-committed l =
    membership_behind (option_map (λ s. s.now) l.membership) (blocks_in (drop l.committed-index l.blocks)) ≡ membership_behind None (blocks_in l.blocks)
