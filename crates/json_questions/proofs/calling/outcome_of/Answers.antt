use Rattle.std.proofs.Common.{◌≡◌, IfOk, Result, Err, replicate, sym, ap, subst, ◌∙◌}
use Rattle.fab_types.specs.Payloads.{Payload}
use Rattle.fab_types.specs.declared.proposal.Proposal.{Proposal}
use Rattle.fab_types.specs.declared.proposal.Proposal.TheVariants as proposal
use Rattle.serde_json.specs.View.{view}
use Rattle.simulator.specs.Answers.{Answers, payload_in}
use Rattle.simulator.specs.Execution.{exec_of}
use Rattle.simulator.specs.declared.refusal.SimRefusal.{SimRefusal}
use Rattle.world_state.specs.Writing.{as_state}
use Rattle.json_questions.specs.Answers.{call_of, outcome_json}
use Rattle.json_questions.proofs.calling.outcome_of.Goals as goal

pub returns-in-Ok : goal.returns-in-Ok
returns-in-Ok c =
    let asked : proposal.Call (record { chaincode = c.in_ok-clone.field-0; argument = c.in_ok-clone-2.field-0; nonce = replicate 16 0 })
    ≡ call_of c.args.chaincode.now c.args.argument.now =
    λ i. proposal.Call (record { chaincode = c.in_ok-clone.ensures.cases i; argument = c.in_ok-clone-2.ensures.cases i; nonce = replicate 16 0 }) in
    let told = sym (ap (λ (p : Proposal). payload_in (exec_of c.args.book.now) p (as_state c.args.state.now.entries)) asked) ∙ c.in-Ok.ensures.answer in
    subst (λ (r : Result Payload SimRefusal). IfOk c.payload_of.result (λ v. view v ≡ outcome_json r)) (sym told) c.payload_of.ensures

pub returns : goal.returns
returns c =
    let asked : proposal.Call (record { chaincode = c.in_ok-clone.field-0; argument = c.in_ok-clone-2.field-0; nonce = replicate 16 0 })
    ≡ call_of c.args.chaincode.now c.args.argument.now =
    λ i. proposal.Call (record { chaincode = c.in_ok-clone.ensures.cases i; argument = c.in_ok-clone-2.ensures.cases i; nonce = replicate 16 0 }) in
    c.refused_of.ensures (payload_in (exec_of c.args.book.now) (call_of c.args.chaincode.now c.args.argument.now) (as_state c.args.state.now.entries))
    (subst (λ (p : Proposal). Answers (payload_in (exec_of c.args.book.now) p (as_state c.args.state.now.entries)) (Err c.in-Err.refusal)) asked
    c.in-Err.ensures.answer)
