use Rattle.std.proofs.Common.{Ok, Err, ap, sym, ◌∙◌}
use Rattle.std.proofs.lemmas.Result.{err_from_is_err_and}
use Rattle.simulator.specs.Execution.{shown}
use Rattle.simulator.proofs.Endings.{IsRun, answer_is, parts_are, answers}
use Rattle.simulator.proofs.simulation.run_executable.Goals as goal

pub returns-in_err-succeed-clause-answer : goal.returns-in_err-succeed-clause-answer
returns-in_err-succeed-clause-answer g c =
    let run : IsRun g.V.View.state (shown c.args.executable.now) c.args.given c.args.view.now c.new-recorder.result c.run.new.host
    c.in_ok-outcome.outcome =
    record { start = c.new-recorder.ensures; ends = c.in_ok-outcome.ensures.ended; keeps = c.in_ok-outcome.ensures.keeps } in
    let p = err_from_is_err_and c.from_residual-in_err-succeed.result c.from_residual-in_err-succeed.ensures.1 in
    answers _ _ (answer_is _ _ _ _ _ _ _ run _ c.in_err-succeed.ensures ∙ sym (p.1 ∙ ap Err p.2))

pub returns-clause-answer : goal.returns-clause-answer
returns-clause-answer g c =
    let run : IsRun g.V.View.state (shown c.args.executable.now) c.args.given c.args.view.now c.new-recorder.result c.run.new.host
    c.in_ok-outcome.outcome =
    record { start = c.new-recorder.ensures; ends = c.in_ok-outcome.ensures.ended; keeps = c.in_ok-outcome.ensures.keeps } in
    answer_is _ _ _ _ _ _ _ run _ c.in_ok-succeed.ensures ∙ ap Ok (sym (c.into_parts.ensures.value ∙ parts_are _ _ _ _ _ _ _ run))
