use Rattle.std.proofs.lemmas.Result.{err_from_is_err_and}
use Rattle.json_genesis.proofs.Refusals.{NoneIs-profile}
use Rattle.json_genesis.proofs.numbers.profile.Goals as goal

pub returns-in_err-number-clause-refused : goal.returns-in_err-number-clause-refused
returns-in_err-number-clause-refused c =
    let p = err_from_is_err_and c.from_residual.result c.from_residual.ensures.1 in
    rw (p.1, p.2) (NoneIs-profile _ _ c.in_err-number.ensures.refused)
