use Rattle.std.proofs.Common.{[]}
use Rattle.cli_lines.specs.Lines.{read_text}
use Rattle.cli_lines.proofs.Printing.{on_err, part_left, prints_all}
use Rattle.cli_lines.proofs.lines.print_reads.Goals as goal

pub returns-clause-prints : goal.returns-clause-prints
returns-clause-prints g c =
    prints_all read_text [] c.args.reads.now c.loop-read.read-index c.args.out.now c.loop-read.out c.loop-read-test.false c.loop-read.invariant

pub returns-in_err-print_read-clause-part : goal.returns-in_err-print_read-clause-part
returns-in_err-print_read-clause-part g c =
    on_err c.from_residual.result _ (part_left read_text [] c.args.reads.now c.loop-read.read-index c.args.out.now c.loop-read.out c.print_read.new.out
    c.loop-read.invariant c.in_err-print_read.ensures.nothing)
