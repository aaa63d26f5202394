use Rattle.std.proofs.lemmas.Result.{IfErr-weaker}
use Rattle.json_genesis.proofs.Refusals.{NoneIs-installed}
use Rattle.json_genesis.proofs.modules.ModuleReaderReadItem.read.Goals as goal

pub returns-in-Some-clause-refused : goal.returns-in-Some-clause-refused
returns-in-Some-clause-refused c =
    IfErr-weaker c.«module».result _ _ (λ r none. NoneIs-installed _ _ _ r c.in-Some.ensures none) c.«module».ensures.refused
