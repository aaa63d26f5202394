use Rattle.std.proofs.lemmas.Result.{err_from_is_err_and}
use Rattle.cli_words.proofs.Parts.{genesis_parts}
use Rattle.cli_words.proofs.Reading.{refused}
use Rattle.cli_words.specs.Words.{rows_in}
use Rattle.cli_words.proofs.task.of_genesis.Goals as goal

pub returns-in_err-text : goal.returns-in_err-text
returns-in_err-text c =
    let p = err_from_is_err_and c.from_residual.result c.from_residual.ensures.1 in
    rw (p.1, p.2)
    (refused _ _ c.in_err-text.field-0.0 c.in_err-text.ensures.reads (λ t h. (genesis_parts (rows_in c.args.command.now) c.args.name.now t h).0))

pub returns-in_err-work : goal.returns-in_err-work
returns-in_err-work c =
    let p = err_from_is_err_and c.from_residual-in_err-work.result c.from_residual-in_err-work.ensures.1 in
    rw (p.1, p.2)
    (refused _ _ c.in_err-work.field-0.0 c.in_err-work.ensures (λ t h. (genesis_parts (rows_in c.args.command.now) c.args.name.now t h).1))
