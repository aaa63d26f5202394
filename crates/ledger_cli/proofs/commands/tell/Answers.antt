use Rattle.cli_lines.specs.Told.{Prints}
use Rattle.ledger_cli.proofs.Lines.{last_if_printed}
use Rattle.ledger_cli.proofs.commands.tell.Goals as goal

pub returns-in_default-clause-line : goal.returns-in_default-clause-line
returns-in_default-clause-line g c =
    last_if_printed c.args.command.now c.writeln.result c.args.failure (Prints c.args.out.now c.writeln.new.self) c.in_default.not-Usage c.in_default.not-Printed
    c.in_default.not-Output c.writeln.ensures.prints
