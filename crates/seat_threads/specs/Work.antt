-- What the seats are to do, and what their workers do.
use Rattle.std.specs.Prelude.{◌≡◌, ℕ, ◌+◌, List, [], ◌∷◌, ◌++◌, length, slice_get, Some}
use Rattle.std.specs.declared.thread.PromisedHandle.{PromisedHandle}
use mathlib.Core.List.{IsPrefix}
use Rattle.atomic_table.specs.Seated.{TableId}
use Rattle.fab_types.specs.declared.envelope.Envelope.{Envelope}
use Rattle.ledger_model.specs.Chain.{Bytes, Chain}
use Rattle.intake.specs.declared.sender.SenderSeat.{SenderSeat}
use Rattle.intake.specs.Seats.{intake_of_sender, number, put}
use Rattle.endorser.specs.Endorsing.{Endorsing}
use Rattle.peer_node.specs.Seats.{PeerId, endorsing_of, peer_of, seen_chain}
use Rattle.seat_threads.specs.declared.counts.Counts.{Counts}
use Rattle.seat_threads.specs.declared.worker.Worker.{Worker}
use Rattle.seat_threads.specs.declared.crew.Rounds.{Rounds}
use Rattle.seat_threads.specs.Rounds.{Outcome, CameTo, envelopes_in, counts_of, no_rounds, sum_of}

-- what the seats endorse by, the chaincode that they call, and in how many rounds
pub record Task : Type 0 where
  pub endorsing : Endorsing
  pub chaincode : Bytes
  pub rounds : ℕ

-- where they work: the intake that they submit to, and the peer that they are of
pub record Home : Type 0 where
  pub intake : TableId
  pub peer : PeerId

-- the rounds of the seats from this number on came to these outcomes: each seat began with no block, and what it saw in the end begins one chain, `whole`
abbrev pub AllCameTo : Task → (whole : Chain) → ℕ → List (List Outcome) → Type 0
AllCameTo task whole seat [] = Unit {0}
AllCameTo task whole seat (outcomes ∷ others) =
    ((last : Chain) × CameTo task.endorsing task.chaincode seat task.rounds [] last outcomes × IsPrefix last whole)
    × AllCameTo task whole (seat + 1) others

abbrev pub total_of : List (List Outcome) → Counts
total_of [] = no_rounds
total_of (outcomes ∷ others) = sum_of (counts_of outcomes) (total_of others)

-- what the seats from this number on put, that of the last one first
abbrev pub puts_of : ℕ → List (List Outcome) → List (ℕ × List Envelope)
puts_of seat [] = []
puts_of seat (outcomes ∷ others) = puts_of (seat + 1) others ++ (seat, envelopes_in outcomes) ∷ []

-- the worker stays with its intake, seat and peer; each round was counted, and the envelope of each endorsed one was put, in the order of the rounds
abbrev pub Works : ℕ → Worker → Worker → Type 0
Works rounds old new =
    (intake_of_sender new.sender ≡ intake_of_sender old.sender) × (number new.sender ≡ number old.sender) × (peer_of new.seat ≡ peer_of old.seat)
    × ((outcomes : List Outcome)
    × CameTo (endorsing_of old.seat) old.chaincode old.number rounds (seen_chain old.seat) (seen_chain new.seat) outcomes
    × (put new.sender ≡ put old.sender ++ envelopes_in outcomes) × (new.counts ≡ counts_of outcomes))

-- the worker of this seat, before its first round and any block
pub record IsWorkerOf (task : Task) (home : Home) (seat : ℕ) (w : Worker) : Type 0 where
  pub intake_is : intake_of_sender w.sender ≡ home.intake
  pub sender : number w.sender ≡ seat
  pub fresh : put w.sender ≡ []
  pub seat_is : w.number ≡ seat
  pub chaincode : w.chaincode ≡ task.chaincode
  pub endorser : endorsing_of w.seat ≡ task.endorsing
  pub peer_is : peer_of w.seat ≡ home.peer
  pub unseen : seen_chain w.seat ≡ []

-- the fresh senders of an intake, each at the place of its number
abbrev pub AreSenders : TableId → List SenderSeat → Type 0
AreSenders intake senders =
    (seat : ℕ) (s : SenderSeat) → slice_get senders seat ≡ Some s → (intake_of_sender s ≡ intake) × (number s ≡ seat) × (put s ≡ [])

-- the workers of so many seats, that of the first seat last
abbrev pub AreWorkersOf : Task → Home → (seats : ℕ) → List Worker → Type 0
AreWorkersOf task home seats workers =
    (place : ℕ) (w : Worker) → slice_get workers place ≡ Some w → (seat : ℕ) × (place + seat + 1 ≡ seats) × IsWorkerOf task home seat w

-- threads, each of which promises the work of the seat of its place
abbrev pub AllPromise : Task → Home → List (PromisedHandle Worker Rounds) → Type 0
AllPromise task home threads =
    (seat : ℕ) (t : PromisedHandle Worker Rounds) → slice_get threads seat ≡ Some t →
    IsWorkerOf task home seat t.promise.worker.value × (t.promise.rounds ≡ task.rounds)

-- The seats' rounds came to some outcomes, which were counted, and saw beginnings of one chain; and the receiver, which knew this, knows what each seat put
pub record HasRetired (task : Task) (whole : Chain) (seats : ℕ) (counts : Counts) (old new : List (ℕ × List Envelope)) : Type 0 where
  pub outcomes : List (List Outcome)
  pub seats_are : length outcomes ≡ seats
  pub came : AllCameTo task whole 0 outcomes
  pub counted : counts ≡ total_of outcomes
  pub known : new ≡ old ++ puts_of 0 outcomes
