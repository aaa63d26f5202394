use Rattle.std.proofs.Common.{ap, ◌∙◌}
use Rattle.cli_words.specs.Table.{row_of_tuple}
use Rattle.cli_words.specs.Words.{app_with}
use Rattle.cli_words.proofs.Behind.{mapped_all}
use Rattle.cli_words.proofs.Words.{command_added}
use Rattle.cli_words.proofs.commands.commands.Goals as goal

pub loop-row-preserved : goal.loop-row-preserved
loop-row-preserved c =
    command_added row_of_tuple c.loop-row.ledger c.in_ok-ledger.ledger c.in_ok-command.command c.rows-row-items.result.now c.loop-row.row-index _ _
    c.in_ok-ledger.ensures c.in_ok-command.ensures.local c.in_ok-command.ensures.app c.of.ensures c.loop-row-test.true c.loop-row.invariant

pub returns : goal.returns
returns c =
    c.loop-row.invariant ∙ ap app_with (mapped_all row_of_tuple c.rows-row-items.result.now c.loop-row.row-index c.loop-row-test.false ∙ c.rows-row-items.ensures)
