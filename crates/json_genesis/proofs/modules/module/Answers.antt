use Rattle.std.proofs.lemmas.Result.{err_from_is_err_and}
use Rattle.json_genesis.proofs.Refusals.{NoneIs-hex}
use Rattle.json_genesis.proofs.modules.module.Goals as goal

pub returns-in_err-module-clause-refused : goal.returns-in_err-module-clause-refused
returns-in_err-module-clause-refused c =
    let p = err_from_is_err_and c.from_residual-in_err-module.result c.from_residual-in_err-module.ensures.1 in
    let bytes = c.deref.ensures.value in
    rw (p.1, p.2) (NoneIs-hex _ _ _ _ _ (rw bytes c.in_ok-bytes.ensures.ok) c.in_ok-profile.ensures.ok c.in_err-module.ensures.refused)
