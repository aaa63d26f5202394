use Rattle.std.proofs.Common.{string_bytes, ◌∙◌}
use Rattle.cli_lines.proofs.Printing.{nothing_same, on_err}
use Rattle.cli_show.proofs.Behind.{one_line}
use Rattle.cli_show.proofs.findings.print_ending.Goals as goal

pub returns-clause-line : goal.returns-clause-line
returns-clause-line g c = λ genesis found.
    let finding = c.args.finding in
    let is = rw (c.height-height.ensures.value ∙ c.requires.kept.state.height) at c.in_ok-line.ensures in (
      finding,
      found,
      c.is_good.ensures,
      one_line _ (string_bytes c.in_ok-line.line) c.args.out.now.bytes c.print_line.new.out.bytes is c.in_ok-print_line.ensures.line,
    )

pub returns-in_err-line-clause-nothing : goal.returns-in_err-line-clause-nothing
returns-in_err-line-clause-nothing g c = on_err c.from_residual.result _ (nothing_same c.args.out.now)

pub returns-in_err-print_line-clause-nothing : goal.returns-in_err-print_line-clause-nothing
returns-in_err-print_line-clause-nothing g c = on_err c.from_residual-in_err-print_line.result _ c.in_err-print_line.ensures.nothing
