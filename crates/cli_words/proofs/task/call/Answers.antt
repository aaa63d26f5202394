use Rattle.std.proofs.Common.{codes, subst, sym, ◌∙◌}
use Rattle.std.proofs.lemmas.Option.{none-some}
use Rattle.std.proofs.lemmas.Result.{err_from_is_err_and}
use Rattle.cli_words.proofs.Reading.{none_is, one_text, refused}
use Rattle.cli_words.specs.Words.{IsCallBy, SpellsArgument, rows_in, text_of}
use Rattle.cli_words.proofs.task.call.Goals as goal

pub returns-in_err-nonce : goal.returns-in_err-nonce
returns-in_err-nonce c =
    let p = err_from_is_err_and c.from_residual.result c.from_residual.ensures.1 in
    rw (p.1, p.2) (refused _ _ c.in_err-nonce.field-0.0 c.in_err-nonce.ensures (λ call h. (call.nonce, h.0)))

pub returns-in_err-text : goal.returns-in_err-text
returns-in_err-text c =
    let p = err_from_is_err_and c.from_residual-in_err-text.result c.from_residual-in_err-text.ensures.1 in
    rw (p.1, p.2)
    (none_is (IsCallBy (rows_in c.args.command.now) (text_of c.args.nonce)) c.in_err-text.field-0.0
    (λ is call h. none-some h.1.0 (sym c.in_err-text.ensures.missing ∙ h.1.1)))

pub returns-in_err-argument : goal.returns-in_err-argument
returns-in_err-argument c =
    let p = err_from_is_err_and c.from_residual-in_err-argument.result c.from_residual-in_err-argument.ensures.1 in
    let rows = rows_in c.args.command.now in
    rw (p.1, p.2)
    (refused _ _ c.in_err-argument.field-0.0 c.in_err-argument.ensures
    (λ call h. (
      call.argument,
      subst (λ d. SpellsArgument d call.argument) (one_text rows (codes "ARG") h.1.0 c.in_ok-text.field-0.now h.1.1 c.in_ok-text.ensures.reads) h.1.2,
    )))

pub returns-in_err-chaincode : goal.returns-in_err-chaincode
returns-in_err-chaincode c =
    let p = err_from_is_err_and c.from_residual-in_err-chaincode.result c.from_residual-in_err-chaincode.ensures.1 in
    rw (p.1, p.2) (refused _ _ c.in_err-chaincode.field-0.0 c.in_err-chaincode.ensures (λ call h. (call.chaincode, h.2)))
