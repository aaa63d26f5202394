use Rattle.std.proofs.Common.{◌≡◌, IfOk, Result, sym, subst}
use Rattle.fab_types.specs.Payloads.{Payload}
use Rattle.serde_json.specs.View.{view}
use Rattle.simulator.specs.declared.refusal.SimRefusal.{SimRefusal}
use Rattle.json_questions.specs.Answers.{outcome_json}
use Rattle.json_questions.proofs.Refusals.{answered}
use Rattle.json_questions.proofs.calling.refused_of.Goals as goal

pub returns-in_default : goal.returns-in_default
returns-in_default c = λ wanted h.
    let told = answered wanted c.args.refusal c.in_default.not-Memory h in
    subst (λ (r : Result Payload SimRefusal). IfOk c.told_of.result (λ v. view v ≡ outcome_json r)) (sym told) c.told_of.ensures
