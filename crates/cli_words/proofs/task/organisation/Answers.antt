use Rattle.std.specs.Prelude.{None, codes}
use Rattle.cli_words.proofs.Reading.{or_other, or_there}
use Rattle.cli_words.specs.Words.{SpellsOrg, rows_in}
use Rattle.cli_words.proofs.task.organisation.Goals as goal

pub returns-in-Some : goal.returns-in-Some
returns-in-Some c =
    or_there SpellsOrg None (rows_in c.args.command.now) (codes "org") c.option.result c.in-Some.name c.spelled_organisation.result c.option.ensures
    c.in-Some.is c.spelled_organisation.ensures

pub returns-in-None : goal.returns-in-None
returns-in-None c = or_other SpellsOrg None (rows_in c.args.command.now) (codes "org") c.option.result c.option.ensures c.in-None.is
