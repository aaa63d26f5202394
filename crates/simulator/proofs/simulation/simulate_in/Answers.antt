use Rattle.std.proofs.Common.{Ok, Err, ap, sym, ◌∙◌}
use Rattle.std.proofs.lemmas.Result.{err_from_is_err_and}
use Rattle.fab_types.specs.Payloads.{Payload}
use Rattle.fab_types.specs.declared.proposal.Proposal.{Proposal}
use Rattle.world_state.specs.Writing.{as_state}
use Rattle.host_api.specs.declared.recorder.Parts.{Parts}
use Rattle.simulator.proofs.Refusals.{then_answers, then_unknown, then_not_installed, then_bad_policy, then_bad_membership}
use Rattle.simulator.proofs.simulation.simulate_in.Goals as goal

abbrev made : Proposal → Parts → Payload
made p parts = record { proposal = p; result = parts.result; reads = parts.reads; ranges = parts.ranges; writes = parts.writes }

pub returns-in_err-parts-clause-answer : goal.returns-in_err-parts-clause-answer
returns-in_err-parts-clause-answer c =
    let p = err_from_is_err_and c.from_residual.result c.from_residual.ensures.1 in
    then_answers (made c.args.proposal.now) c.args.book.now c.chaincodes-valid.ensures.valid (as_state c.args.state.now.entries) c.args.proposal.now
    (Err c.in_err-parts.field-0.0) c.in_err-parts.ensures c.from_residual.result (sym (p.1 ∙ ap Err p.2))

pub returns-clause-answer : goal.returns-clause-answer
returns-clause-answer c =
    let copy = ap (λ (p : Proposal). Ok (made p c.in_ok-parts.parts)) (sym c.in_ok-clone.ensures.cases) in
    then_answers (made c.args.proposal.now) c.args.book.now c.chaincodes-valid.ensures.valid (as_state c.args.state.now.entries) c.args.proposal.now
    (Ok c.in_ok-parts.parts) c.in_ok-parts.ensures _ (copy ∙ sym (ap Ok c.in_ok-new.ensures))

pub returns-in_err-parts-clause-unknown : goal.returns-in_err-parts-clause-unknown
returns-in_err-parts-clause-unknown c =
    let p = err_from_is_err_and c.from_residual.result c.from_residual.ensures.1 in
    then_unknown (made c.args.proposal.now) c.args.book.now c.chaincodes-valid.ensures.valid (as_state c.args.state.now.entries) c.args.proposal.now
    (Err c.in_err-parts.field-0.0) c.in_err-parts.ensures c.from_residual.result (sym (p.1 ∙ ap Err p.2))

pub returns-clause-unknown : goal.returns-clause-unknown
returns-clause-unknown c =
    then_unknown (made c.in_ok-clone.field-0) c.args.book.now c.chaincodes-valid.ensures.valid (as_state c.args.state.now.entries) c.args.proposal.now
    (Ok c.in_ok-parts.parts) c.in_ok-parts.ensures _ (sym (ap Ok c.in_ok-new.ensures))

pub returns-in_err-parts-clause-not_installed : goal.returns-in_err-parts-clause-not_installed
returns-in_err-parts-clause-not_installed c =
    let p = err_from_is_err_and c.from_residual.result c.from_residual.ensures.1 in
    then_not_installed (made c.args.proposal.now) c.args.book.now c.chaincodes-valid.ensures.valid (as_state c.args.state.now.entries) c.args.proposal.now
    (Err c.in_err-parts.field-0.0) c.in_err-parts.ensures c.from_residual.result (sym (p.1 ∙ ap Err p.2))

pub returns-clause-not_installed : goal.returns-clause-not_installed
returns-clause-not_installed c =
    then_not_installed (made c.in_ok-clone.field-0) c.args.book.now c.chaincodes-valid.ensures.valid (as_state c.args.state.now.entries) c.args.proposal.now
    (Ok c.in_ok-parts.parts) c.in_ok-parts.ensures _ (sym (ap Ok c.in_ok-new.ensures))

pub returns-in_err-parts-clause-bad_policy : goal.returns-in_err-parts-clause-bad_policy
returns-in_err-parts-clause-bad_policy c =
    let p = err_from_is_err_and c.from_residual.result c.from_residual.ensures.1 in
    then_bad_policy (made c.args.proposal.now) c.args.book.now c.chaincodes-valid.ensures.valid (as_state c.args.state.now.entries) c.args.proposal.now
    (Err c.in_err-parts.field-0.0) c.in_err-parts.ensures c.from_residual.result (sym (p.1 ∙ ap Err p.2))

pub returns-clause-bad_policy : goal.returns-clause-bad_policy
returns-clause-bad_policy c =
    then_bad_policy (made c.in_ok-clone.field-0) c.args.book.now c.chaincodes-valid.ensures.valid (as_state c.args.state.now.entries) c.args.proposal.now
    (Ok c.in_ok-parts.parts) c.in_ok-parts.ensures _ (sym (ap Ok c.in_ok-new.ensures))

pub returns-in_err-parts-clause-bad_membership : goal.returns-in_err-parts-clause-bad_membership
returns-in_err-parts-clause-bad_membership c =
    let p = err_from_is_err_and c.from_residual.result c.from_residual.ensures.1 in
    then_bad_membership (made c.args.proposal.now) c.args.book.now c.chaincodes-valid.ensures.valid (as_state c.args.state.now.entries) c.args.proposal.now
    (Err c.in_err-parts.field-0.0) c.in_err-parts.ensures c.from_residual.result (sym (p.1 ∙ ap Err p.2))

pub returns-clause-bad_membership : goal.returns-clause-bad_membership
returns-clause-bad_membership c =
    then_bad_membership (made c.in_ok-clone.field-0) c.args.book.now c.chaincodes-valid.ensures.valid (as_state c.args.state.now.entries) c.args.proposal.now
    (Ok c.in_ok-parts.parts) c.in_ok-parts.ensures _ (sym (ap Ok c.in_ok-new.ensures))
