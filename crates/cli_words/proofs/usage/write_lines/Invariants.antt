use Rattle.std.proofs.Common.{◌≡◌, codes, map, take}
use denote.Shadow.{shadow}
use denote.Text.{Utf8}
use Rattle.std.specs.Fmt.{HasWritten, IsPlainFormatter}
use Rattle.cli_words.specs.Table.{row_of_tuple}
use Rattle.cli_words.specs.UsageText.{behind, line_text}
use Rattle.cli_words.proofs.Behind.{lead_of}
use Rattle.cli_words.proofs.usage.write_lines.Given as goal

abbrev pub invariant-loop-row : goal.invariant-loop-row
invariant-loop-row g l =
    shadow (Utf8 l.lead) × (l.lead ≡ lead_of (codes "usage:") (codes "      ") (map row_of_tuple (take l.row-index l.rows)))
    × (IsPlainFormatter l.fn.f
    → HasWritten g.W.Write.write_str_gives l.fn.f (behind line_text (codes "usage:") (codes "      ") (map row_of_tuple (take l.row-index l.rows))) l.f)
