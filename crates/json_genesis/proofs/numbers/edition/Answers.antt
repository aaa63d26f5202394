use Rattle.std.proofs.lemmas.Result.{err_from_is_err_and}
use Rattle.json_genesis.proofs.Editions.{NoneIs-edition}
use Rattle.json_genesis.proofs.numbers.edition.Goals as goal

pub returns-in_err-known-clause-refused : goal.returns-in_err-known-clause-refused
returns-in_err-known-clause-refused c =
    let p = err_from_is_err_and c.from_residual.result c.from_residual.ensures.1 in
    rw (c.in-Some.is, p.1, p.2) (NoneIs-edition _ _ c.in_err-known.ensures.refused)
