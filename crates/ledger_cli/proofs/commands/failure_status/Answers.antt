use Rattle.std.proofs.Common.{sym}
use Rattle.ledger_cli.proofs.Lines.{other_status}
use Rattle.ledger_cli.proofs.commands.failure_status.Goals as goal

pub returns-in_default-clause-status : goal.returns-in_default-clause-status
returns-in_default-clause-status c = sym (other_status c.args.failure c.in_default.not-Usage)
