use Rattle.std.proofs.Common.{Some, None, Ok, Err, option_map, refl, sym, ap, ◌∙◌, subst}
use Rattle.std.proofs.lemmas.Result.{err_from_is_err_and}
use Rattle.simulator.specs.Execution.{found_as, given_by, shown}
use Rattle.simulator.specs.Answers.{Answers}
use Rattle.simulator.specs.declared.refusal.SimRefusal.TheVariants.{NotInstalled, UnknownChaincode}
use Rattle.simulator.proofs.Calls.{call_answers}
use Rattle.simulator.proofs.simulation.execute_call.Goals as goal

pub returns-in-None : goal.returns-in-None
returns-in-None g c =
    call_answers _ c.args.call.now _ _ c.of_definition-key.ensures _ c.look_up-version.ensures.value _ c.look_up-version.ensures.version None
    (sym (ap (option_map found_as) c.in-None.is) ∙ c.in_ok-find_executable.ensures) _ refl (Err UnknownChaincode) refl

pub returns-in-Some-NotAtHand : goal.returns-in-Some-NotAtHand
returns-in-Some-NotAtHand g c =
    call_answers _ c.args.call.now _ _ c.of_definition-key.ensures _ c.look_up-version.ensures.value _ c.look_up-version.ensures.version (Some None)
    (sym (ap (option_map found_as) (c.in-Some-NotAtHand.is ∙ ap Some c.in-Some-NotAtHand.field-0-is)) ∙ c.in_ok-find_executable.ensures) _ refl
    (Err NotInstalled) refl

pub returns-in_err-parts : goal.returns-in_err-parts
returns-in_err-parts g c =
    let p = err_from_is_err_and c.from_residual-in_err-parts.result c.from_residual-in_err-parts.ensures.1 in
    let is = ap (option_map found_as) (c.in-Some-AtHand.is ∙ ap Some c.in-Some-AtHand.field-0-is) in
    let given = c.given_by-given.ensures ∙ ap (λ e. given_by e c.args.call.now) c.edition.ensures in
    subst (Answers _) (sym (p.1 ∙ ap Err p.2))
    (call_answers _ c.args.call.now _ _ c.of_definition-key.ensures _ c.look_up-version.ensures.value _ c.look_up-version.ensures.version
    (Some (Some (shown c.in-Some-AtHand.executable))) (sym is ∙ c.in_ok-find_executable.ensures) _ given (Err c.in_err-parts.field-0.0)
    c.in_err-parts.ensures.answer)

pub returns : goal.returns
returns g c =
    let parts = c.in_ok-parts.parts in
    let is = ap (option_map found_as) (c.in-Some-AtHand.is ∙ ap Some c.in-Some-AtHand.field-0-is) in
    let given = c.given_by-given.ensures ∙ ap (λ e. given_by e c.args.call.now) c.edition.ensures in
    call_answers _ c.args.call.now _ _ c.of_definition-key.ensures _ c.look_up-version.ensures.value _ c.look_up-version.ensures.version
    (Some (Some (shown c.in-Some-AtHand.executable))) (sym is ∙ c.in_ok-find_executable.ensures) _ given (Ok parts) c.in_ok-parts.ensures.answer
    ∙ (λ i. Ok (record { reads = sym c.in_ok-reads.ensures i; ranges = parts.ranges; result = parts.result; writes = parts.writes }))
