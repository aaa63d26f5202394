use Rattle.std.proofs.Common.{map, string_bytes, rules}
use Rattle.std.proofs.lemmas.Result.{err_from_is_err_and}
use Rattle.clap.specs.Values.{kind_of}
use Rattle.cli_words.proofs.Words.{not_taken, task_of_words}
use Rattle.cli_words.specs.Words.{rows_in}
use Rattle.cli_words.proofs.task.parse.Goals as goal

pub returns-in_err-matches : goal.returns-in_err-matches
returns-in_err-matches c =
    let p = err_from_is_err_and c.from_residual-in_err-matches.result c.from_residual-in_err-matches.ensures.1 in
    let e = c.in_err-matches.field-0.0 in
    rw p.1 (not_taken (map string_bytes c.args.words.now) c.in_ok-ledger.ledger (kind_of e) p.0 c.in_ok-ledger.ensures p.2 c.in_err-matches.ensures.kinds)

pub returns-in-Some-subcommand : goal.returns-in-Some-subcommand
returns-in-Some-subcommand c =
    let matches = c.in_ok-matches.ensures in
    task_of_words string_bytes c.args.words.now c.in-Some.name.now c.deref.result.now (rows_in c.in-Some-subcommand.command.now) c.in_ok-ledger.ledger
    c.in_ok-matches.matches c.task_of.result (search rules) (search rules) c.in_ok-ledger.ensures matches.matches matches.kinds
    c.in-Some-subcommand.ensures.rows c.task_of.ensures
