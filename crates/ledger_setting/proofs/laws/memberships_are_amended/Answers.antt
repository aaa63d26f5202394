use Rattle.ledger_setting.proofs.Amended.{amended, named_blocks}
use Rattle.ledger_setting.proofs.laws.memberships_are_amended.Goals as goal

pub returns : goal.returns
returns c = record { amended = amended; named = named_blocks }
