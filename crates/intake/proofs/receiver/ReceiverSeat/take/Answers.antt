use Rattle.std.proofs.Common.{ap}
use Rattle.intake.specs.declared.rule.View.{View}
use Rattle.intake.proofs.Mails.{takes, learns_rest}
use Rattle.intake.proofs.receiver.ReceiverSeat.take.Goals as goal

pub pop_as-requires-clause-rule : goal.pop_as-requires-clause-rule
pop_as-requires-clause-rule g c = (takes _ _ (ap (λ (v : View). v.gets) c.args.self.now.gets), learns_rest _ _ (ap (λ (v : View). v.gets) c.args.self.now.gets))
