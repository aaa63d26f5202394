use Rattle.std.proofs.Common.{◌≡◌, ℕ, [], length, slice_get, Some}
use Rattle.intake.specs.declared.sender.SenderSeat.{SenderSeat}
use Rattle.intake.specs.Mail.{receiver}
use Rattle.intake.specs.Seats.{knows, capacity_of_receiver, IsFresh}
use Rattle.intake.proofs.opening.Intake.open.Given as goal

abbrev pub invariant-loop-index : goal.invariant-loop-index
invariant-loop-index l =
    (length l.seats.items ≡ l.index) × (knows l.receiver ≡ receiver l.senders l.index [] []) × (capacity_of_receiver l.receiver ≡ l.capacity)
    × ((k : ℕ) (s : SenderSeat) → slice_get l.seats.items k ≡ Some s → IsFresh l.receiver l.senders k s)
