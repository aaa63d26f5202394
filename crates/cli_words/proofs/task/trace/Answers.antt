use Rattle.std.proofs.lemmas.Result.{err_from_is_err_and}
use Rattle.cli_words.proofs.Parts.{trace_parts}
use Rattle.cli_words.proofs.Reading.{refused}
use Rattle.cli_words.specs.Words.{rows_in}
use Rattle.cli_words.proofs.task.trace.Goals as goal

pub returns-in_err-steps : goal.returns-in_err-steps
returns-in_err-steps c =
    let p = err_from_is_err_and c.from_residual.result c.from_residual.ensures.1 in
    rw (p.1, p.2) (refused _ _ c.in_err-steps.field-0.0 c.in_err-steps.ensures (λ t h. (trace_parts (rows_in c.args.command.now) t h).0))

pub returns-in_err-call : goal.returns-in_err-call
returns-in_err-call c =
    let p = err_from_is_err_and c.from_residual-in_err-call.result c.from_residual-in_err-call.ensures.1 in
    rw (p.1, p.2) (refused _ _ c.in_err-call.field-0.0 c.in_err-call.ensures (λ t h. (trace_parts (rows_in c.args.command.now) t h).1))
