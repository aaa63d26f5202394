use Rattle.std.proofs.Common.{Option, List, ℕ, subst}
use Rattle.std.proofs.lemmas.Result.{err_from_is_err_and}
use Rattle.cli_words.proofs.Parts.{simulate_parts}
use Rattle.cli_words.proofs.Reading.{refused}
use Rattle.cli_words.specs.Words.{IsCallBy, rows_in}
use Rattle.cli_words.proofs.task.simulate.Goals as goal

pub returns-in_err-call : goal.returns-in_err-call
returns-in_err-call c =
    let p = err_from_is_err_and c.from_residual.result c.from_residual.ensures.1 in
    let rows = rows_in c.args.command.now in
    rw (p.1, p.2)
    (refused _ _ c.in_err-call.field-0.0 c.in_err-call.ensures
    (λ w h. let s = simulate_parts rows w h in (s.0, subst (λ (o : Option (List ℕ)). IsCallBy rows o s.0) c.option.ensures s.1)))
