use Rattle.cli_words.proofs.Words.{may_have}
use Rattle.cli_words.proofs.task.option.Goals as goal

pub returns : goal.returns
returns c = may_have c.args.command.now c.args.name.now c.get_str.result c.get_str.ensures
