use Rattle.std.proofs.lemmas.Result.{err_from_is_err_and}
use Rattle.cli_words.proofs.Parts.{digest_parts}
use Rattle.cli_words.proofs.Reading.{refused}
use Rattle.cli_words.specs.Words.{rows_in}
use Rattle.cli_words.proofs.task.digest.Goals as goal

pub returns-in_err-module : goal.returns-in_err-module
returns-in_err-module c =
    let p = err_from_is_err_and c.from_residual.result c.from_residual.ensures.1 in
    rw (p.1, p.2) (refused _ _ c.in_err-module.field-0.0 c.in_err-module.ensures.reads (λ t h. (digest_parts (rows_in c.args.command.now) t h).0))

pub returns-in_err-profile : goal.returns-in_err-profile
returns-in_err-profile c =
    let p = err_from_is_err_and c.from_residual-in_err-profile.result c.from_residual-in_err-profile.ensures.1 in
    rw (p.1, p.2) (refused _ _ c.in_err-profile.field-0.0 c.in_err-profile.ensures (λ t h. (digest_parts (rows_in c.args.command.now) t h).1))
