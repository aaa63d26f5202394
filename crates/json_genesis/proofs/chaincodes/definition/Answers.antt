use Rattle.std.proofs.Common.{refl}
use Rattle.std.proofs.lemmas.Result.{err_from_is_err_and}
use Rattle.json_genesis.proofs.chaincodes.definition.Goals as goal

pub returns-in_err-chaincode-clause-refused : goal.returns-in_err-chaincode-clause-refused
returns-in_err-chaincode-clause-refused c =
    let p = err_from_is_err_and c.from_residual.result c.from_residual.ensures.1 in
    rw (p.1, p.2) ((λ e. cc), (λ n x is. absurd (n refl)))

pub returns-in_err-held-clause-refused : goal.returns-in_err-held-clause-refused
returns-in_err-held-clause-refused c =
    let p = err_from_is_err_and c.from_residual-in_err-held.result c.from_residual-in_err-held.ensures.1 in
    let none = c.in_err-held.ensures.refused in
    rw (p.1, p.2) (none.0, λ real x has. none.1 real (record { «module» = x.chaincode.«module»; id = x.id }) (has.0, has.1))

pub returns-in-Err-clause-refused : goal.returns-in-Err-clause-refused
returns-in-Err-clause-refused c =
    let none = c.in-Err.ensures.refused in (none.0, λ real x has. none.1 real x.policy.policy has.2)
