use Rattle.std.proofs.lemmas.Result.{IfErr-weaker}
use Rattle.json_genesis.proofs.OfTexts.{of_text}
use Rattle.json_genesis.proofs.modules_file.read_modules.Goals as goal

pub returns-in-Ok-clause-refused : goal.returns-in-Ok-clause-refused
returns-in-Ok-clause-refused c = IfErr-weaker c.read_list.result _ _ (λ r none. of_text _ _ _ r c.in-Ok.ensures.ok none) c.read_list.ensures.refused
