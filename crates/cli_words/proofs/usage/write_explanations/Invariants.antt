use Rattle.std.proofs.Common.{map, take}
use Rattle.std.specs.Fmt.{HasWritten, IsPlainFormatter}
use Rattle.std.specs.List.{flat_map}
use Rattle.cli_words.specs.Table.{row_of_tuple}
use Rattle.cli_words.specs.UsageText.{explanation_text}
use Rattle.cli_words.proofs.usage.write_explanations.Given as goal

abbrev pub invariant-loop-row : goal.invariant-loop-row
invariant-loop-row g l =
    IsPlainFormatter l.fn.f →
    HasWritten g.W.Write.write_str_gives l.fn.f (flat_map explanation_text (map row_of_tuple (take l.row-index l.rows))) l.f
