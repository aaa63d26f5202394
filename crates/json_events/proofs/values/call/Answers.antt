use Rattle.std.proofs.lemmas.Result.{err_from_is_err_and}
use Rattle.json_events.proofs.values.call.Goals as goal

pub returns-in_err-argument-clause-refused : goal.returns-in_err-argument-clause-refused
returns-in_err-argument-clause-refused c =
    let p = err_from_is_err_and c.from_residual-in_err-argument.result c.from_residual-in_err-argument.ensures.1 in
    rw (p.1, p.2) (λ real call h. c.in_err-argument.ensures.refused real call.argument h.2)
