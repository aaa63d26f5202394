use Rattle.std.proofs.Common.{codes}
use Rattle.cli_words.proofs.Reading.{or_other, or_there}
use Rattle.cli_words.specs.Words.{SpellsCount, rows_in}
use Rattle.cli_words.proofs.task.steps.Goals as goal

pub returns-in-Some : goal.returns-in-Some
returns-in-Some c =
    or_there SpellsCount 1000 (rows_in c.args.command.now) (codes "steps") c.option.result c.in-Some.digits c.count.result c.option.ensures c.in-Some.is
    c.count.ensures

pub returns-in-None : goal.returns-in-None
returns-in-None c = or_other SpellsCount 1000 (rows_in c.args.command.now) (codes "steps") c.option.result c.option.ensures c.in-None.is
