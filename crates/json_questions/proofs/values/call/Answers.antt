use Rattle.std.proofs.Common.{refl}
use Rattle.std.proofs.lemmas.Result.{err_from_is_err_and}
use Rattle.json_questions.proofs.OneQuestion.{no_call}
use Rattle.json_questions.proofs.values.call.Goals as goal

pub returns-in_err-chaincode-clause-refused : goal.returns-in_err-chaincode-clause-refused
returns-in_err-chaincode-clause-refused c =
    let p = err_from_is_err_and c.from_residual.result c.from_residual.ensures.1 in
    rw (p.1, p.2) (λ real. no_call _ _ (λ a named is. c.in_err-chaincode.ensures.refused real _ (refl, named)))

pub returns-in_err-argument-clause-refused : goal.returns-in_err-argument-clause-refused
returns-in_err-argument-clause-refused c =
    let p = err_from_is_err_and c.from_residual-in_err-argument.result c.from_residual-in_err-argument.ensures.1 in
    rw (p.1, p.2) (λ real. no_call _ _ (λ a named is. c.in_err-argument.ensures.refused real a is))
