use Rattle.std.proofs.Common.{take}
use Rattle.std.specs.Fmt.{HasWritten, IsPlainFormatter}
use Rattle.std.specs.List.{flat_map}
use Rattle.cli_words.specs.Table.{pairs}
use Rattle.cli_words.specs.UsageText.{option_text}
use Rattle.cli_words.proofs.usage.write_options.Given as goal

abbrev pub invariant-loop-name : goal.invariant-loop-name
invariant-loop-name g l =
    IsPlainFormatter l.fn.f → HasWritten g.W.Write.write_str_gives l.fn.f (flat_map option_text (pairs (take l.name-index l.options))) l.f
