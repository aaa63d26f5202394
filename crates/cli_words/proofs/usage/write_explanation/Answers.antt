use Rattle.std.proofs.Common.{[], ap, refl, rules}
use Rattle.std.proofs.Output.{has_written_append, has_written_of_eq}
use Rattle.std.proofs.lemmas.Iterator.Consumers.{YieldsList-end}
use Rattle.std.proofs.lemmas.Iterator.Splits.{YieldsList-from_lines}
use Rattle.cli_words.specs.UsageText.{behind, does_text}
use Rattle.cli_words.proofs.Behind.{behind_line, lead_line}
use Rattle.cli_words.proofs.usage.write_explanation.Goals as goal

pub loop-line-preserved : goal.loop-line-preserved
loop-line-preserved g c =
    let name = c.args.form.now.name.now in
    let before = c.loop-line.invariant in (
      search rules,
      lead_line name c.loop-line.yielded c.in-Some.line,
      λ plain.
          has_written_of_eq _ _ _ _ _ (behind_line name c.loop-line.yielded c.in-Some.line _ before.1)
          (has_written_append _ _ _ _ _ _ (before.2 plain) ((rw c.laid_out.ensures at c.in_ok-writeln.ensures.writes) (before.2 plain).plain refl)),
    )

pub returns : goal.returns
returns g c =
    let t = YieldsList-end (YieldsList-from_lines c.args.form.now.does.now cc) c.loop-line.yielded _ c.loop-line.yielded_by _ _ c.in-None.is
    c.next.ensures.steps in
    λ plain ok. has_written_of_eq _ _ _ _ _ (ap (behind does_text c.args.form.now.name.now []) t.0) (c.loop-line.invariant.2 plain)
