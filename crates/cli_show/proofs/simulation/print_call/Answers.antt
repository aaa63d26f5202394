use Rattle.std.proofs.Common.{inl, Ok, Err, refl, subst, ◌∙◌}
use Rattle.std.proofs.lemmas.Result.{err_from_is_err_and}
use Rattle.chaincode_book.specs.Books.{Book}
use Rattle.ledger_model.specs.Views.{Versioned}
use Rattle.kept_state.specs.Keeping.{chain_of}
use Rattle.simulator.specs.Answers.{payload_in, payload_or_refusal}
use Rattle.simulator.specs.Answers as simulator
use Rattle.simulator.specs.Execution.{exec_of}
use Rattle.cli_lines.specs.Lines.{payload_text}
use Rattle.cli_lines.specs.Told.{IsTextOf}
use Rattle.cli_lines.proofs.Answering.{begins_part}
use Rattle.cli_lines.proofs.Printing.{nothing_same}
use Rattle.cli_show.specs.Simulations.{SimulatesOn}
use Rattle.cli_lines.proofs.Silence.{no_less, tells_by}
use Rattle.cli_show.proofs.Calls.{call_refused, call_told}
use Rattle.cli_show.proofs.simulation.print_call.Goals as goal

pub returns-in_err-payload-clause-tells : goal.returns-in_err-payload-clause-tells
returns-in_err-payload-clause-tells g c =
    let p = err_from_is_err_and c.from_residual.result c.from_residual.ensures.1 in
    rw p.1 (tells_by c.args.out.now c.args.out.now p.0 (no_less c.args.out.now) p.2.0)

pub returns-in_err-payload-clause-answers : goal.returns-in_err-payload-clause-answers
returns-in_err-payload-clause-answers g c =
    let chain = chain_of c.args.chain.now in
    let same = c.map.ensures ∙ c.requires.kept.state.state in
    let p = err_from_is_err_and c.from_residual.result c.from_residual.ensures.1 in
    let refusal = c.in_err-payload.field-0.0 in
    let wanted = subst (λ (b : Book). simulator.Answers (payload_or_refusal (exec_of b) c.args.proposal.now chain) (Err refusal)) c.deref.ensures
    (subst (λ (m : Versioned). simulator.Answers (payload_in (exec_of c.deref.result.now) c.args.proposal.now m) (Err refusal)) same
    c.in_err-payload.ensures.answer)
    in
    rw p.1 (call_refused c.args.genesis.now c.args.proposal.now chain refusal p.0 c.args.out.now wanted p.2.1)

pub returns-clause-answers : goal.returns-clause-answers
returns-clause-answers g c =
    let chain = chain_of c.args.chain.now in
    let same = c.map.ensures ∙ c.requires.kept.state.state in
    let r = c.print_payload in
    let payload = c.in_ok-payload.payload in
    let wanted = subst (λ (b : Book). simulator.Answers (payload_or_refusal (exec_of b) c.args.proposal.now chain) (Ok payload)) c.deref.ensures
    (subst (λ (m : Versioned). simulator.Answers (payload_in (exec_of c.deref.result.now) c.args.proposal.now m) (Ok payload)) same
    c.in_ok-payload.ensures.answer)
    in
    call_told c.args.genesis.now c.args.proposal.now chain payload c.args.out.now r.new.out r.result wanted r.ensures.lost r.ensures.prints

pub returns-in_err-payload-clause-begins : goal.returns-in_err-payload-clause-begins
returns-in_err-payload-clause-begins g c = λ broken. inl (nothing_same c.args.out.now)

pub returns-clause-begins : goal.returns-clause-begins
returns-clause-begins g c =
    let chain = chain_of c.args.chain.now in
    let same = c.map.ensures ∙ c.requires.kept.state.state in
    let r = c.print_payload in
    let payload = c.in_ok-payload.payload in
    let wanted = subst (λ (b : Book). simulator.Answers (payload_or_refusal (exec_of b) c.args.proposal.now chain) (Ok payload)) c.deref.ensures
    (subst (λ (m : Versioned). simulator.Answers (payload_in (exec_of c.deref.result.now) c.args.proposal.now m) (Ok payload)) same
    c.in_ok-payload.ensures.answer)
    in
    begins_part (IsTextOf (SimulatesOn c.args.genesis.now c.args.proposal.now chain)) c.args.out.now r.new.out r.result (payload_text payload)
    (Ok tt, (payload, wanted, refl)) r.ensures.part
