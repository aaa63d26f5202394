use Rattle.std.proofs.Common.{take}
use Rattle.std.specs.Io.KnownBytes.{Appends}
use Rattle.world_state.specs.Shared.{blocks_in}
use Rattle.cli_session.specs.Stored.{store_bytes}
use Rattle.cli_session.proofs.storing.write_blocks.Given as goal

abbrev pub invariant-loop-committed : goal.invariant-loop-committed
invariant-loop-committed g l =
    Appends (g.W.Write.contents l.fn.writer) (g.W.Write.contents l.writer) (store_bytes (blocks_in (take l.committed-index l.blocks)))
