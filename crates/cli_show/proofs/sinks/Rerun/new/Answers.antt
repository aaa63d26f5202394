use Rattle.std.proofs.Common.{refl}
use Rattle.simulator.specs.Execution.{exec_of}
use Rattle.cli_show.proofs.sinks.Rerun.new.Goals as goal

pub returns-clause-none : goal.returns-clause-none
returns-clause-none c = (c.new.ensures (exec_of c.args.book.now), refl)
