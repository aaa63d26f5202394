use Rattle.json_genesis.proofs.OfTexts.{same_modules}
use Rattle.json_genesis.proofs.laws.modules_spelled_once.Goals as goal

pub returns : goal.returns
returns c = same_modules
