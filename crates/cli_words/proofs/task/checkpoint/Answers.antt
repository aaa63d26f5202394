use Rattle.std.proofs.lemmas.Result.{err_from_is_err_and}
use Rattle.cli_words.proofs.Parts.{checkpoint_parts}
use Rattle.cli_words.proofs.Reading.{refused}
use Rattle.cli_words.specs.Words.{rows_in}
use Rattle.cli_words.proofs.task.checkpoint.Goals as goal

pub returns-in_err-text : goal.returns-in_err-text
returns-in_err-text c =
    let p = err_from_is_err_and c.from_residual.result c.from_residual.ensures.1 in
    rw (p.1, p.2) (refused _ _ c.in_err-text.field-0.0 c.in_err-text.ensures.reads (λ t h. (checkpoint_parts (rows_in c.args.command.now) t h).0))

pub returns-in_err-text-2 : goal.returns-in_err-text-2
returns-in_err-text-2 c =
    let p = err_from_is_err_and c.from_residual-in_err-text-2.result c.from_residual-in_err-text-2.ensures.1 in
    rw (p.1, p.2) (refused _ _ c.in_err-text-2.field-0.0 c.in_err-text-2.ensures.reads (λ t h. (checkpoint_parts (rows_in c.args.command.now) t h).1))
