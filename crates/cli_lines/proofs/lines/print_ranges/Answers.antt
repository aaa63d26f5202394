use Rattle.std.proofs.Common.{[]}
use Rattle.cli_lines.specs.Lines.{range_text}
use Rattle.cli_lines.proofs.Printing.{on_err, part_left, prints_all}
use Rattle.cli_lines.proofs.lines.print_ranges.Goals as goal

pub returns-clause-prints : goal.returns-clause-prints
returns-clause-prints g c =
    prints_all range_text [] c.args.ranges.now c.loop-range.range-index c.args.out.now c.loop-range.out c.loop-range-test.false c.loop-range.invariant

pub returns-in_err-print_range-clause-part : goal.returns-in_err-print_range-clause-part
returns-in_err-print_range-clause-part g c =
    on_err c.from_residual.result _ (part_left range_text [] c.args.ranges.now c.loop-range.range-index c.args.out.now c.loop-range.out c.print_range.new.out
    c.loop-range.invariant c.in_err-print_range.ensures.nothing)
