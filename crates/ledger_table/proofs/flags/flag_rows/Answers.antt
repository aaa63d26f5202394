use Rattle.std.proofs.Common.{refl}
use Rattle.ledger_table.specs.Table.{all_flags}
use Rattle.ledger_table.proofs.flags.flag_rows.Goals as goal

pub returns : goal.returns
unfolding all_flags
returns c = refl
