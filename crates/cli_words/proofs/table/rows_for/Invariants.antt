use Rattle.std.proofs.Common.{◌≡◌, drop, map}
use Rattle.std.specs.List.{find}
use Rattle.cli_words.specs.Table.{row_of_tuple}
use Rattle.cli_words.specs.UsageText.{has_name}
use Rattle.cli_words.proofs.table.rows_for.Given as goal

abbrev pub invariant-loop-row : goal.invariant-loop-row
invariant-loop-row l =
    find (has_name l.name) (map row_of_tuple l.rows) ≡ find (has_name l.name) (map row_of_tuple (drop l.row-index l.rows))
