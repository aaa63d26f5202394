use Rattle.std.proofs.lemmas.Result.{err_from_is_err_and}
use Rattle.json_genesis.proofs.Refusals.{NoneIs-fuel, NoneIs-parts}
use Rattle.json_genesis.proofs.chaincodes.DefinitionReaderReadItem.read.Goals as goal

pub returns-in_err-fuel-clause-refused : goal.returns-in_err-fuel-clause-refused
returns-in_err-fuel-clause-refused c =
    let p = err_from_is_err_and c.from_residual.result c.from_residual.ensures.1 in
    rw (p.1, p.2) (NoneIs-fuel _ _ _ _ _ _ _ _ c.in-Some.ensures c.in_err-fuel.ensures.refused)

pub returns-in_err-definition-clause-refused : goal.returns-in_err-definition-clause-refused
returns-in_err-definition-clause-refused c =
    let p = err_from_is_err_and c.from_residual-in_err-definition.result c.from_residual-in_err-definition.ensures.1 in
    rw (p.1, p.2) (NoneIs-parts _ _ _ _ _ _ _ _ c.in-Some.ensures c.in_err-definition.ensures.refused)
