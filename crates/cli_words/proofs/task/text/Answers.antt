use Rattle.cli_words.proofs.Reading.{missing_text, reads_text}
use Rattle.cli_words.specs.Words.{rows_in}
use Rattle.cli_words.proofs.task.text.Goals as goal

pub returns-clause-reads : goal.returns-clause-reads
returns-clause-reads c = rw c.ok_or.ensures.value (reads_text (rows_in c.args.command.now) c.args.name.now c.option.result c.option.ensures)

pub returns-clause-missing : goal.returns-clause-missing
returns-clause-missing c = rw c.ok_or.ensures.value (missing_text (rows_in c.args.command.now) c.args.name.now c.option.result c.option.ensures)
