use Rattle.std.proofs.Common.{codes, ap, rules}
use Rattle.std.proofs.Output.{has_written_append, has_written_of_eq}
use Rattle.cli_words.specs.Table.{row_of_tuple}
use Rattle.cli_words.specs.UsageText.{behind, line_text}
use Rattle.cli_words.specs.UsageText.{lines_text}
use Rattle.cli_words.proofs.Behind.{behind_next, lead_next, mapped_all}
use Rattle.cli_words.proofs.usage.write_lines.Goals as goal

pub loop-row-preserved : goal.loop-row-preserved
loop-row-preserved g c =
    let rows = c.args.rows.now in
    let i = c.loop-row.row-index in
    let before = c.loop-row.invariant in (
      search rules,
      lead_next row_of_tuple (codes "usage:") (codes "      ") rows i c.loop-row-test.true,
      λ plain.
          has_written_of_eq _ _ _ _ _
          (behind_next row_of_tuple line_text (codes "usage:") (codes "      ") rows i _ _ _ c.loop-row-test.true before.1 c.of.ensures)
          (has_written_append _ _ _ _ _ _ (before.2 plain) (search rules)),
    )

pub returns : goal.returns
unfolding lines_text
returns g c =
    λ plain ok.
    has_written_of_eq _ _ _ _ _
    (ap (behind line_text (codes "usage:") (codes "      ")) (mapped_all row_of_tuple c.args.rows.now c.loop-row.row-index c.loop-row-test.false))
    (c.loop-row.invariant.2 plain)
