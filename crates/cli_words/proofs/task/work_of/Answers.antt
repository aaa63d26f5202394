use Rattle.cli_words.proofs.Parts.{other_work}
use Rattle.cli_words.specs.Words.{rows_in}
use Rattle.cli_words.proofs.task.work_of.Goals as goal

pub returns-in_default : goal.returns-in_default
returns-in_default c =
    let other = c.in_default in
    other_work (rows_in c.args.command.now) c.args.name.now other.not-sim other.not-run other.not-threads other.not-audit other.not-show other.not-state
    other.not-trace other.not-peer other.not-marks other.not-checkpoint
