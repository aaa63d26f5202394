use Rattle.std.proofs.Common.{take}
use Rattle.std.specs.Fmt.{HasWritten, IsPlainFormatter}
use Rattle.std.specs.List.{flat_map}
use Rattle.cli_words.specs.Table.{texts}
use Rattle.cli_words.specs.UsageText.{word_text}
use Rattle.cli_words.proofs.usage.write_words.Given as goal

abbrev pub invariant-loop-word : goal.invariant-loop-word
invariant-loop-word g l =
    IsPlainFormatter l.fn.f → HasWritten g.W.Write.write_str_gives l.fn.f (flat_map word_text (texts (take l.word-index l.words))) l.f
