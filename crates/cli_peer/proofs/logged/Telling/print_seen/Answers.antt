use Rattle.std.proofs.Common.{[], None, refl}
use Rattle.cli_lines.proofs.Printing.{prints_none}
use Rattle.cli_peer.proofs.logged.Telling.print_seen.Goals as goal

pub returns-in-None-clause-prints : goal.returns-in-None-clause-prints
returns-in-None-clause-prints g c = ([], (None, c.in-None.ensures, refl), prints_none c.args.out.now)
