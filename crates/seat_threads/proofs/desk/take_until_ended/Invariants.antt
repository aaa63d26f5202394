use Rattle.std.proofs.Common.{◌≡◌}
use Rattle.intake.specs.Seats.{knows}
use Rattle.seat_threads.specs.Desks.{IsAtWork, IsSameDesk}
use Rattle.seat_threads.proofs.desk.take_until_ended.Given as goal

abbrev pub invariant-takes : goal.invariant-takes
invariant-takes g l =
    IsAtWork l.desk × IsSameDesk l.desk l.fn.desk × ((knows l.desk.receiver).known ≡ (knows l.fn.desk.receiver).known)
    × ((knows l.desk.receiver).senders ≡ (knows l.fn.desk.receiver).senders)
