use Rattle.json_genesis.proofs.Refusals.{NoneIs-valid}
use Rattle.json_genesis.proofs.modules.module_in.Goals as goal

pub returns-in-Err-clause-refused : goal.returns-in-Err-clause-refused
returns-in-Err-clause-refused c =
    (c.refusal_of_module.ensures.read, λ real. NoneIs-valid _ _ _ c.in-Err.ensures.refused (c.refusal_of_module.ensures.refused real))
