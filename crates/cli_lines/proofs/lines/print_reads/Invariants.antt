use Rattle.std.proofs.Common.{[], ◌++◌, take}
use Rattle.std.specs.List.{flat_map}
use Rattle.cli_lines.specs.Lines.{read_text}
use Rattle.cli_lines.specs.Told.{Prints}
use Rattle.cli_lines.proofs.lines.print_reads.Given as goal

abbrev pub invariant-loop-read : goal.invariant-loop-read
invariant-loop-read g l = Prints l.fn.out l.out ([] ++ flat_map read_text (take l.read-index l.reads))
