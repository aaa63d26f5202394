use Rattle.std.proofs.Common.{[], ◌++◌, take}
use Rattle.std.specs.List.{flat_map, zip}
use Rattle.cli_lines.specs.Told.{Prints}
use Rattle.cli_peer.specs.Printed.{left_out_text}
use Rattle.cli_peer.proofs.aborted.print_aborted.Given as goal

abbrev pub invariant-loop-place : goal.invariant-loop-place
invariant-loop-place g l = Prints l.fn.out l.out ([] ++ flat_map left_out_text (take l.place (zip l.ids l.causes)))
