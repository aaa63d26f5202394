use Rattle.std.proofs.Common.{ap, rules}
use Rattle.std.specs.List.{flat_map}
use Rattle.std.proofs.Output.{has_written_append, has_written_of_eq}
use Rattle.cli_words.specs.Table.{row_of_tuple}
use Rattle.cli_words.specs.UsageText.{explanation_text}
use Rattle.cli_words.specs.UsageText.{explanations_text}
use Rattle.cli_words.proofs.Behind.{flat_next, mapped_all}
use Rattle.cli_words.proofs.usage.write_explanations.Goals as goal

pub loop-row-preserved : goal.loop-row-preserved
loop-row-preserved g c =
    λ plain.
    let before = c.loop-row.invariant plain in
    has_written_of_eq _ _ _ _ _
    (flat_next row_of_tuple explanation_text c.args.rows.now c.loop-row.row-index _ _ c.loop-row-test.true c.of.ensures)
    (has_written_append _ _ _ _ _ _ before (search rules))

pub returns : goal.returns
unfolding explanations_text
returns g c =
    λ plain ok.
    has_written_of_eq _ _ _ _ _
    (ap (flat_map explanation_text) (mapped_all row_of_tuple c.args.rows.now c.loop-row.row-index c.loop-row-test.false)) (c.loop-row.invariant plain)
