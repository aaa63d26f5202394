use Rattle.ledger_setting.proofs.Owned.{owned}
use Rattle.ledger_setting.proofs.laws.keys_are_put_by_their_chaincode.Goals as goal

pub returns : goal.returns
returns c = owned
