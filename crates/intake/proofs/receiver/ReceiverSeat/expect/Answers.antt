use Rattle.std.proofs.Common.{ap}
use Rattle.intake.specs.declared.rule.View.{View}
use Rattle.intake.proofs.Mails.{counts}
use Rattle.intake.proofs.receiver.ReceiverSeat.expect.Goals as goal

pub another-idle-requires-clause-rule : goal.another-idle-requires-clause-rule
another-idle-requires-clause-rule c = counts _ _ (ap (λ (v : View). v.gets) c.loop-sender.invariant.0) (ap (λ (v : View). v.made) c.loop-sender.invariant.0)
