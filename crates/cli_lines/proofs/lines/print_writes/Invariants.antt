use Rattle.std.proofs.Common.{[], ◌++◌, take}
use Rattle.std.specs.List.{flat_map}
use Rattle.cli_lines.specs.Lines.{write_text}
use Rattle.cli_lines.specs.Told.{Prints}
use Rattle.cli_lines.proofs.lines.print_writes.Given as goal

abbrev pub invariant-loop-write : goal.invariant-loop-write
invariant-loop-write g l = Prints l.fn.out l.out ([] ++ flat_map write_text (take l.write-index l.writes))
