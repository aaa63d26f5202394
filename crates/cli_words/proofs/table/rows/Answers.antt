use Rattle.std.proofs.Common.{refl}
use Rattle.cli_words.specs.Table.{table}
use Rattle.cli_words.proofs.table.rows.Goals as goal

pub returns : goal.returns
unfolding table
returns c = refl
