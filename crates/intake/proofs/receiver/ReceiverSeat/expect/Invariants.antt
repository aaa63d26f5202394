use Rattle.std.proofs.Common.{◌≡◌, []}
use Rattle.intake.specs.Mail.{receiver}
use Rattle.intake.specs.Seats.{knows, IsSameIntake}
use Rattle.intake.proofs.receiver.ReceiverSeat.expect.Given as goal

abbrev pub invariant-loop-sender : goal.invariant-loop-sender
invariant-loop-sender l = (knows l.self ≡ receiver l._sender 0 [] []) × IsSameIntake l.self l.fn.self
