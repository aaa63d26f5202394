use Rattle.ledger_setting.proofs.Once.{one_amendment, one_upgrade}
use Rattle.ledger_setting.proofs.laws.a_block_changes_a_key_once.Goals as goal

pub returns : goal.returns
returns c = record { amendments = one_amendment; upgrades = one_upgrade }
