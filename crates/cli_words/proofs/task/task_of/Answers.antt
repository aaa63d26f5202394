use Rattle.cli_words.proofs.Parts.{task_as, work_task}
use Rattle.cli_words.proofs.Reading.{reads_by}
use Rattle.cli_words.specs.Words.{IsTaskAs, IsWorkTask, rows_in}
use Rattle.cli_words.proofs.task.task_of.Goals as goal

pub returns-in_default : goal.returns-in_default
returns-in_default c =
    let name = c.args.name.now in
    let rows = rows_in c.args.command.now in
    let other = c.in_default in
    reads_by (IsWorkTask name rows) (IsTaskAs name rows) c.of_genesis.result (task_as rows name)
    (work_task rows name other.not-check other.not-digest other.not-public other.not-version) c.of_genesis.ensures
