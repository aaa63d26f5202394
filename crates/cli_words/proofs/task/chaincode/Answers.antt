use Rattle.std.proofs.Common.{sym, ◌∙◌}
use Rattle.std.proofs.lemmas.Option.{none-some}
use Rattle.std.proofs.lemmas.Result.{err_from_is_err_and}
use Rattle.cli_words.proofs.Reading.{none_is}
use Rattle.cli_words.specs.Words.{IsChaincodeBy, rows_in}
use Rattle.cli_words.proofs.task.chaincode.Goals as goal

pub returns-in_err-name : goal.returns-in_err-name
returns-in_err-name c =
    let p = err_from_is_err_and c.from_residual.result c.from_residual.ensures.1 in
    rw (p.1, p.2)
    (none_is (IsChaincodeBy (rows_in c.args.command.now)) c.in_err-name.field-0.0 (λ is n h. none-some n (sym c.in_err-name.ensures.missing ∙ h.1)))
