use Rattle.std.proofs.Common.{◌≡◌, drop}
use Rattle.std.specs.List.{find}
use Rattle.world_state.specs.Shared.{blocks_in}
use Rattle.cli_lines.specs.Missing.{block_needs_module}
use Rattle.cli_lines.proofs.missing.first_that_needs.Given as goal

abbrev pub invariant-loop-committed : goal.invariant-loop-committed
invariant-loop-committed l =
    find (block_needs_module l.book) (blocks_in l.blocks) ≡ find (block_needs_module l.book) (drop l.committed-index (blocks_in l.blocks))
