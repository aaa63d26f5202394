-- What a clause sees of the seats.
use Rattle.std.specs.Prelude.{◌≡◌, ℕ, List, []}
use Rattle.std.specs.Arc.{arc_value}
use Rattle.crossbeam_queue.specs.Passes.{view, ruled_capacity}
use Rattle.atomic_table.specs.Seated.{TableId}
use Rattle.fab_types.specs.declared.envelope.Envelope.{Envelope}
use Rattle.intake.specs.declared.rule.View.{View}
use Rattle.intake.specs.declared.sender.SenderSeat.{SenderSeat}
use Rattle.intake.specs.declared.receiver.ReceiverSeat.{ReceiverSeat}

-- which intake it is of
abbrev pub intake_of_sender : SenderSeat → TableId
intake_of_sender s = s.pass.table_id

abbrev pub intake_of_receiver : ReceiverSeat → TableId
intake_of_receiver s = s.pass.table_id

-- how many envelopes the queue holds
abbrev pub capacity_of_sender : SenderSeat → ℕ
capacity_of_sender s = ruled_capacity (arc_value s.queue)

abbrev pub capacity_of_receiver : ReceiverSeat → ℕ
capacity_of_receiver s = ruled_capacity (arc_value s.queue)

-- what a sender knows
abbrev pub sender_knows : SenderSeat → View
sender_knows s = view s.pass

-- the number of the seat, how many senders there are, and all that it put
abbrev pub number : SenderSeat → ℕ
number s = (sender_knows s).from

abbrev pub senders : SenderSeat → ℕ
senders s = (sender_knows s).senders

abbrev pub put : SenderSeat → List Envelope
put s = (sender_knows s).put

-- what the receiver knows
abbrev pub knows : ReceiverSeat → View
knows s = view s.pass

-- a fresh seat of this intake, by its number
abbrev pub IsFresh : ReceiverSeat → (senders : ℕ) → ℕ → SenderSeat → Type 0
IsFresh r n k s =
    (intake_of_sender s ≡ intake_of_receiver r) × (capacity_of_sender s ≡ capacity_of_receiver r) × (senders s ≡ n) × (number s ≡ k) × (put s ≡ [])

-- of one intake, with one capacity, as before
abbrev pub IsSameIntake : ReceiverSeat → ReceiverSeat → Type 0
IsSameIntake a b = (intake_of_receiver a ≡ intake_of_receiver b) × (capacity_of_receiver a ≡ capacity_of_receiver b)
