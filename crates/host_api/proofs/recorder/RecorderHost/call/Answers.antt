use Rattle.std.proofs.Common.{◌≤◌, length, min, subst}
use Rattle.std.proofs.lemmas.Result.{IfOk-weaker}
use Rattle.ledger_model.specs.Views.{values_of}
use Rattle.host_api.proofs.Behind.{step_lent}
use Rattle.host_api.proofs.recorder.RecorderHost.call.Goals as goal

pub returns-clause-answer : goal.returns-clause-answer
returns-clause-answer g c =
    let m = values_of (g.V.View.state c.args.self.now.opened.view) in
    let reaches = subst (λ n. min n (length c.args.memory.now) ≤ length c.front.result.now) c.reach-end.ensures c.front.ensures.reaches in
    IfOk-weaker c.answer.result _ _
    (λ a e. step_lent m c.args.self.now.opened.given c.args.which c.args.args.now c.args.memory.now c.front.result.now c.answer.new.memory
    c.args.self.now.records c.answer.new.self.records a c.front.ensures.value reaches c.answer.ensures.keeps e) c.answer.ensures.answer
