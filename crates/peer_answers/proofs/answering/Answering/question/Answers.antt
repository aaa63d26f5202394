use Rattle.std.proofs.Common.{◌≡◌, inr, refl}
use Rattle.json_events.specs.declared.action.BadLine.TheVariants.{Memory, NoForm}
use Rattle.peer_answers.proofs.answering.Answering.question.Goals as goal

other : NoForm ≡ Memory → ⊥
other e = cc

pub returns-in-Err-NoForm : goal.returns-in-Err-NoForm
returns-in-Err-NoForm g c =
    let none = rw c.in-Err-NoForm.field-0-is at c.in-Err-NoForm.ensures.refused in
    inr ((λ q spells. none other q spells), refl)
