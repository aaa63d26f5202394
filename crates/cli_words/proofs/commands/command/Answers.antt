use Rattle.std.proofs.Common.{◌++◌, ap, map, sym, ◌∙◌}
use Rattle.std.proofs.lemmas.List.{append-nil}
use Rattle.cli_words.specs.Table.{texts}
use Rattle.cli_words.specs.Words.{app_by, option_rule, word_rule}
use Rattle.cli_words.proofs.Behind.{mapped_all}
use Rattle.cli_words.proofs.Words.{rule_added, rules_next, still_local}
use Rattle.cli_words.proofs.commands.command.Goals as goal

pub loop-name-init : goal.loop-name-init
loop-name-init c =
    let form = c.args.form.now in
    (c.in_ok-command.ensures.app ∙ ap (app_by form.name.now) (sym (append-nil (map word_rule (texts form.words.now)))), c.in_ok-command.ensures.local)

pub loop-name-preserved : goal.loop-name-preserved
loop-name-preserved c =
    let form = c.args.form.now in
    let loop = c.loop-name in (
      rule_added loop.command c.in_ok-command-2.command c.option.result form.name.now _ _ c.in_ok-command-2.ensures c.option.ensures.local
          c.option.ensures.rule loop.invariant.0
          ∙ ap (app_by form.name.now)
          (rules_next (λ o. option_rule o.0 o.1) (λ pair. (pair.0.now, pair.1.now)) (map word_rule (texts form.words.now)) form.options.now loop.name-index _
          c.loop-name-test.true),
      still_local loop.command c.in_ok-command-2.command c.option.result c.in_ok-command-2.ensures c.option.ensures.local loop.invariant.1,
    )

pub returns-clause-app : goal.returns-clause-app
returns-clause-app c =
    let form = c.args.form.now in
    c.loop-name.invariant.0
    ∙ ap (λ os. app_by form.name.now (map word_rule (texts form.words.now) ++ map (λ o. option_rule o.0 o.1) os))
    (mapped_all (λ pair. (pair.0.now, pair.1.now)) form.options.now c.loop-name.name-index c.loop-name-test.false)
