use Rattle.std.proofs.Common.{refl}
use Rattle.ledger_table.specs.Table.{all_numbers}
use Rattle.ledger_table.proofs.numbers.number_rows.Goals as goal

pub returns : goal.returns
unfolding all_numbers
returns c = refl
