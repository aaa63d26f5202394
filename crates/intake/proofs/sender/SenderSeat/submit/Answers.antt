use Rattle.std.proofs.Common.{ap, sym}
use Rattle.intake.specs.declared.rule.Parcel.{Parcel}
use Rattle.intake.specs.declared.rule.View.{View}
use Rattle.intake.proofs.Mails.{submits, learns_mine}
use Rattle.intake.proofs.sender.SenderSeat.submit.Goals as goal

pub push_as-requires-clause-rule : goal.push_as-requires-clause-rule
push_as-requires-clause-rule g c = (
  submits _ _ _ _ (ap (λ (v : View). v.sends) c.args.self.now.sends) (sym (ap (λ (v : View). v.from) c.args.self.now.sends)),
  learns_mine _ _ (ap (λ (v : View). v.sends) c.args.self.now.sends),
)

pub returns-in-Err-clause-put : goal.returns-in-Err-clause-put
returns-in-Err-clause-put g c =
    let kept = rw c.in-Err.field-0-is at c.in-Err.ensures.rule in
    (ap (λ (p : Parcel). p.envelope) kept.0, ap (λ (v : View). v.put) kept.1)
