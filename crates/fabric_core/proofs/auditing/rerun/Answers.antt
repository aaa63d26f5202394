use Rattle.std.proofs.Common.{◌∙◌, Result, ap, sym}
use Rattle.std.proofs.lemmas.Result.{IfOk-weaker}
use Rattle.ledger_model.specs.Serial.{apply}
use Rattle.host_api.specs.Plain.{plain_of}
use Rattle.simulator.specs.Answers.{Rerun, told_by}
use Rattle.simulator.specs.Execution.{exec_of}
use Rattle.simulator.specs.declared.refusal.SimRefusal.{SimRefusal}
use Rattle.fabric_core.specs.Audit.{answer_agrees}
use Rattle.fabric_core.proofs.Audits.{told_writes}
use Rattle.fabric_core.proofs.auditing.rerun.Goals as goal

pub returns-in-Ok-clause-agrees : goal.returns-in-Ok-clause-agrees
returns-in-Ok-clause-agrees c =
    let told = rw c.proposal.ensures at c.in-Ok.ensures.told in
    IfOk-weaker c.apply_agreed.result _ _
    (λ b is. is ∙ sym (ap (λ (told : Result Rerun SimRefusal). answer_agrees told c.args.payload.now) told)) c.apply_agreed.ensures.agrees

pub returns-in-Ok-clause-state : goal.returns-in-Ok-clause-state
returns-in-Ok-clause-state c =
    let old = plain_of c.args.state.now in
    let outcome = exec_of c.args.book.now c.args.payload.now.proposal old in
    let told = rw c.proposal.ensures at c.in-Ok.ensures.told in
    let same = told_writes outcome.ending outcome.seen (told_by c.in-Ok.parts) told in
    IfOk-weaker c.apply_agreed.result _ _ (λ b applied is. applied is ∙ ap (apply old) same) c.apply_agreed.ensures.state
