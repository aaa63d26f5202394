use Rattle.std.proofs.Common.{◌≡◌}
use Rattle.intake.specs.Seats.{intake_of_sender, number, put}
use Rattle.seat_threads.proofs.worker.submit.Given as goal

abbrev pub invariant-submits : goal.invariant-submits
invariant-submits g l =
    (l.waiting ≡ l.fn.envelope) × (put l.sender ≡ put l.fn.sender) × (intake_of_sender l.sender ≡ intake_of_sender l.fn.sender)
    × (number l.sender ≡ number l.fn.sender)
