use Rattle.std.proofs.Common.{◌≡◌}
use Rattle.intake.specs.Seats.{knows}
use Rattle.seat_threads.specs.Desks.{IsAtWork, IsSameDesk}
use Rattle.seat_threads.proofs.desk.Desk.take_rest.Given as goal

abbrev pub invariant-takes : goal.invariant-takes
invariant-takes g l =
    IsAtWork l.self × IsSameDesk l.self l.fn.self × ((knows l.self.receiver).known ≡ (knows l.fn.self.receiver).known)
    × ((knows l.self.receiver).senders ≡ (knows l.fn.self.receiver).senders)
