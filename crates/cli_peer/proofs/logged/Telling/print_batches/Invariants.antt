use Rattle.std.proofs.Common.{[], ◌++◌, take}
use Rattle.std.specs.List.{flat_map}
use Rattle.cli_lines.specs.Told.{Prints}
use Rattle.log_peer.specs.Peering.{held_by}
use Rattle.cli_peer.specs.Logged.{batch_text}
use Rattle.cli_peer.proofs.logged.Telling.print_batches.Given as goal

abbrev pub invariant-loop-batch : goal.invariant-loop-batch
invariant-loop-batch g l = Prints l.fn.out l.out ([] ++ flat_map (batch_text (held_by l.self.peer.now).chain) (take l.batch-index l.batches))
