use Rattle.cli_words.proofs.Reading.{or_other, or_there}
use Rattle.cli_words.specs.Words.{SpellsBlock, rows_in}
use Rattle.cli_words.proofs.task.block_under.Goals as goal

pub returns-in-Some : goal.returns-in-Some
returns-in-Some c =
    or_there SpellsBlock c.args.other (rows_in c.args.command.now) c.args.name.now c.option.result c.in-Some.digits c.block.result c.option.ensures c.in-Some.is
    c.block.ensures

pub returns-in-None : goal.returns-in-None
returns-in-None c = or_other SpellsBlock c.args.other (rows_in c.args.command.now) c.args.name.now c.option.result c.option.ensures c.in-None.is
