use Rattle.std.proofs.lemmas.Result.{err_from_is_err_and}
use Rattle.cli_words.proofs.Parts.{state_parts}
use Rattle.cli_words.proofs.Reading.{refused}
use Rattle.cli_words.specs.Words.{rows_in}
use Rattle.cli_words.proofs.task.state.Goals as goal

pub returns-in_err-text : goal.returns-in_err-text
returns-in_err-text c =
    let p = err_from_is_err_and c.from_residual.result c.from_residual.ensures.1 in
    rw (p.1, p.2) (refused _ _ c.in_err-text.field-0.0 c.in_err-text.ensures.reads (λ t h. (state_parts (rows_in c.args.command.now) t h).0))

pub returns-in_err-block_under : goal.returns-in_err-block_under
returns-in_err-block_under c =
    let p = err_from_is_err_and c.from_residual-in_err-block_under.result c.from_residual-in_err-block_under.ensures.1 in
    rw (p.1, p.2) (refused _ _ c.in_err-block_under.field-0.0 c.in_err-block_under.ensures (λ t h. (state_parts (rows_in c.args.command.now) t h).1))

pub returns-in_err-state_part : goal.returns-in_err-state_part
returns-in_err-state_part c =
    let p = err_from_is_err_and c.from_residual-in_err-state_part.result c.from_residual-in_err-state_part.ensures.1 in
    rw (p.1, p.2) (refused _ _ c.in_err-state_part.field-0.0 c.in_err-state_part.ensures (λ t h. (state_parts (rows_in c.args.command.now) t h).2))
