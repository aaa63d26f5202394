use Rattle.std.proofs.Common.{rules}
use Rattle.std.proofs.Output.{has_written_append}
use Rattle.cli_words.proofs.usage.UsageDisplay.fmt.Goals as goal

pub returns-clause-writes : goal.returns-clause-writes
returns-clause-writes g c = λ plain ok.
    let first = rw c.rows_for-rows.ensures at (c.write_lines.ensures plain (search rules)) in
    let second = rw c.rows_for-rows.ensures at (c.write_explanations.ensures first.plain ok) in
    has_written_append _ _ _ _ _ _ first second
