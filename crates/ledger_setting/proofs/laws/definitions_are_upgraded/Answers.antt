use Rattle.ledger_setting.proofs.Amended.{upgraded}
use Rattle.ledger_setting.proofs.laws.definitions_are_upgraded.Goals as goal

pub returns : goal.returns
returns c = upgraded
