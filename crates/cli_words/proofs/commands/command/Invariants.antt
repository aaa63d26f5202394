use Rattle.std.proofs.Common.{◌≡◌, ◌++◌, map, take}
use Rattle.clap.specs.Simple.{app_of}
use Rattle.cli_words.proofs.Words.{IsLocal}
use Rattle.cli_words.specs.Table.{pairs, texts}
use Rattle.cli_words.specs.Words.{app_by, option_rule, word_rule}
use Rattle.cli_words.proofs.commands.command.Given as goal

abbrev pub invariant-loop-name : goal.invariant-loop-name
invariant-loop-name l =
    (app_of l.command
    ≡ app_by l.fn.form.name.now
    (map word_rule (texts l.fn.form.words.now) ++ map (λ o. option_rule o.0 o.1) (pairs (take l.name-index l.name-items)))) × IsLocal l.command
