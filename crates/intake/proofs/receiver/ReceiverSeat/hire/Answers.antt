use Rattle.std.proofs.Common.{ap, arith}
use Rattle.intake.specs.declared.rule.View.{View}
use Rattle.intake.proofs.Mails.{hires}
use Rattle.intake.proofs.receiver.ReceiverSeat.hire.Goals as goal

pub another-pass-requires-clause-rule : goal.another-pass-requires-clause-rule
another-pass-requires-clause-rule c = hires _ _ (ap (λ (v : View). v.gets) c.args.self.now.gets) (omega (arith, c.requires.next, c.requires.room))
