use Rattle.json_genesis.proofs.OneGenesis.{one}
use Rattle.json_genesis.proofs.laws.spelled_once.Goals as goal

pub returns : goal.returns
returns c = one
