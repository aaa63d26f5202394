-- The numbers of refusals.
use Rattle.std.specs.Prelude.{ℕ, Option, Some, None}
use Rattle.simulator.specs.RefusalNumber.{refusal_number}
use Rattle.fabric_core.specs.System.{Reply, NoSuchPeer, NoSuchSeat, SeatBusy, Begun, NothingBegun, Refused, Endorsed, Queued, QueueFull, Nothing, Ordered, Cut}
use Rattle.fabric_core.specs.System.{TooLarge, NoBlockLeft, IsCommitted}

-- a reply that refuses has a number, and no other one
abbrev pub reply_number : Reply → Option ℕ
reply_number NoSuchPeer = Some 452
reply_number NoSuchSeat = Some 452
reply_number SeatBusy = Some 451
reply_number (Begun height) = None
reply_number NothingBegun = Some 453
reply_number (Refused refusal) = Some (refusal_number refusal)
reply_number (Endorsed payload endorsement) = None
reply_number Queued = None
reply_number QueueFull = Some 411
reply_number Nothing = None
reply_number (Ordered reports) = None
reply_number (Cut report) = None
reply_number (TooLarge envelope) = Some 421
reply_number (NoBlockLeft envelope) = Some 422
reply_number (IsCommitted number flags) = None
