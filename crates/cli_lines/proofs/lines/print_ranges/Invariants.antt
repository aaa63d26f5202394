use Rattle.std.proofs.Common.{[], ◌++◌, take}
use Rattle.std.specs.List.{flat_map}
use Rattle.cli_lines.specs.Lines.{range_text}
use Rattle.cli_lines.specs.Told.{Prints}
use Rattle.cli_lines.proofs.lines.print_ranges.Given as goal

abbrev pub invariant-loop-range : goal.invariant-loop-range
invariant-loop-range g l = Prints l.fn.out l.out ([] ++ flat_map range_text (take l.range-index l.ranges))
