use Rattle.std.proofs.Common.{refl}
use Rattle.ledger_table.specs.Table.{all_names}
use Rattle.ledger_table.proofs.names.name_rows.Goals as goal

pub returns : goal.returns
unfolding all_names
returns c = refl
