use Rattle.std.proofs.Common.{◌≡◌, inl, inr, refl}
use Rattle.std.proofs.lemmas.Result.{IfOk-weaker}
use Rattle.json_events.specs.declared.action.BadLine.TheVariants.{Memory, NoForm}
use Rattle.kept_state.specs.Keeping.{chain_of}
use Rattle.peer_answers.specs.Calls.{IsCalled}
use Rattle.peer_answers.specs.Setting.{org_of}
use Rattle.peer_answers.specs.Spoken.{answer_text}
use Rattle.peer_answers.proofs.answering.Answering.call.Goals as goal

other : NoForm ≡ Memory → ⊥
other e = cc

pub returns-in-Ok : goal.returns-in-Ok
returns-in-Ok c =
    let self = c.args.self.now in
    IfOk-weaker c.endorse.result _ (λ a. IsCalled self.log.now.genesis (org_of self.org) c.args.agreed (chain_of c.args.chain.now) c.args.words.now (answer_text a))
    (λ a is. inl (c.in-Ok.proposal, c.in-Ok.ensures.ok, is)) c.endorse.ensures

pub returns-in-Err-NoForm : goal.returns-in-Err-NoForm
returns-in-Err-NoForm c =
    let none = rw c.in-Err-NoForm.field-0-is at c.in-Err-NoForm.ensures.refused in
    inr ((λ p spells. none other p spells), refl)
