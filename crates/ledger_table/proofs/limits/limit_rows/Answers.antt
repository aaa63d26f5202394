use Rattle.std.proofs.Common.{refl}
use Rattle.ledger_table.specs.Table.{all_limits}
use Rattle.ledger_table.proofs.limits.limit_rows.Goals as goal

pub returns : goal.returns
unfolding all_limits
returns c = refl
