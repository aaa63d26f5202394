use Rattle.std.proofs.Common.{◌≡◌, map, take}
use Rattle.clap.specs.Simple.{app_of}
use Rattle.cli_words.specs.Table.{row_of_tuple}
use Rattle.cli_words.specs.Words.{app_with}
use Rattle.cli_words.proofs.commands.commands.Given as goal

abbrev pub invariant-loop-row : goal.invariant-loop-row
invariant-loop-row l = app_of l.ledger ≡ app_with (map row_of_tuple (take l.row-index l.row-items))
