use Rattle.std.proofs.Common.{[], ap, map, ◌∙◌}
use Rattle.cli_words.specs.Words.{app_by, word_rule}
use Rattle.cli_words.proofs.Behind.{mapped_all}
use Rattle.cli_words.proofs.Words.{rule_added, rules_next, still_local}
use Rattle.cli_words.proofs.commands.worded.Goals as goal

pub loop-name-preserved : goal.loop-name-preserved
loop-name-preserved c =
    let name = c.args.form.now.name.now in
    let words = c.args.form.now.words.now in
    let loop = c.loop-name in (
      rule_added loop.command c.in_ok-command.command c.word.result name _ _ c.in_ok-command.ensures c.word.ensures.local c.word.ensures.rule loop.invariant.0
          ∙ ap (app_by name) (rules_next word_rule (λ w. w.now) [] words loop.name-index _ c.loop-name-test.true),
      still_local loop.command c.in_ok-command.command c.word.result c.in_ok-command.ensures c.word.ensures.local loop.invariant.1,
    )

pub returns-clause-app : goal.returns-clause-app
returns-clause-app c =
    let form = c.args.form.now in
    c.loop-name.invariant.0
    ∙ ap (λ ws. app_by form.name.now (map word_rule ws)) (mapped_all (λ w. w.now) form.words.now c.loop-name.name-index c.loop-name-test.false)
