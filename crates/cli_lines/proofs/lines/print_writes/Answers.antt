use Rattle.std.proofs.Common.{[]}
use Rattle.cli_lines.specs.Lines.{write_text}
use Rattle.cli_lines.proofs.Printing.{on_err, part_left, prints_all}
use Rattle.cli_lines.proofs.lines.print_writes.Goals as goal

pub returns-clause-prints : goal.returns-clause-prints
returns-clause-prints g c =
    prints_all write_text [] c.args.writes.now c.loop-write.write-index c.args.out.now c.loop-write.out c.loop-write-test.false c.loop-write.invariant

pub returns-in_err-print_write-clause-part : goal.returns-in_err-print_write-clause-part
returns-in_err-print_write-clause-part g c =
    on_err c.from_residual.result _ (part_left write_text [] c.args.writes.now c.loop-write.write-index c.args.out.now c.loop-write.out c.print_write.new.out
    c.loop-write.invariant c.in_err-print_write.ensures.nothing)
