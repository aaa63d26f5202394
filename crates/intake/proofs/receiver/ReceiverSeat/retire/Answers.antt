use Rattle.std.proofs.Common.{ap}
use Rattle.intake.specs.declared.rule.View.{View}
use Rattle.intake.proofs.Mails.{retires}
use Rattle.intake.proofs.receiver.ReceiverSeat.retire.Goals as goal

pub absorb-requires-clause-rule : goal.absorb-requires-clause-rule
absorb-requires-clause-rule c = retires _ _ _ _ (ap (λ (v : View). v.gets) c.args.self.now.gets) (ap (λ (v : View). v.sends) c.args.seat.sends)
