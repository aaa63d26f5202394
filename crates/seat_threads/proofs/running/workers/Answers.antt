use Rattle.std.proofs.Common.{rules, ◌≡◌, ◌+◌, [], ℕ, Some, length, sym, ◌∙◌, arith}
use Rattle.std.proofs.lemmas.List.Elements.{All-pop}
use Rattle.atomic_table.specs.Seated.{TableId}
use Rattle.intake.specs.declared.sender.SenderSeat.{SenderSeat}
use Rattle.intake.specs.Seats.{intake_of_sender, number, put}
use Rattle.peer_node.specs.Seats.{IsSeat}
use Rattle.seat_threads.specs.declared.worker.Worker.{Worker}
use Rattle.seat_threads.specs.Work.{Task, Home, IsWorkerOf}
use Rattle.seat_threads.proofs.Places.{taken, pushed_to}
use Rattle.seat_threads.proofs.running.workers.Goals as goal

-- a fresh sender at the place of its number
abbrev IsFreshAt : TableId → ℕ → SenderSeat → Type 0
IsFreshAt intake seat s = (intake_of_sender s ≡ intake) × (number s ≡ seat) × (put s ≡ [])

-- the worker at a place of the list is that of a seat
abbrev IsPlaced : Task → Home → ℕ → ℕ → Worker → Type 0
IsPlaced task home seats place w = (seat : ℕ) × (place + seat + 1 ≡ seats) × IsWorkerOf task home seat w

pub loop-worker-preserved : goal.loop-worker-preserved
loop-worker-preserved c = (
  search rules,
  search rules,
  search rules,
  omega (arith, c.loop-worker.invariant.3, c.push_reserved.ensures.capacity),
  λ task home called serves fresh.
      let inv = c.loop-worker.invariant in
      let seats = length c.args.senders.items in
      let workers = c.loop-worker.workers.items in
      let both = inv.4 task home called serves fresh in
      let seat = All-pop (IsSeat task.endorsing home.peer) _ _ (Some c.take_last-seat.result) c.take_last-seat.ensures.items both.0 in
      let sender = taken (IsFreshAt home.intake) c.loop-worker.senders.items _ c.take_last-sender.result c.take_last-sender.ensures.items both.1 in
      let left = length c.take_last-sender.new.self.items in
      let place : length workers + left + 1 ≡ seats = omega (arith, inv.0, inv.2, sender.2) in
      let copied : c.in_ok-called.called ≡ c.args.chaincode.now = search rules in
      let named = copied ∙ sym called in (
        seat.0,
        sender.0,
        pushed_to (IsPlaced task home seats) workers _ _ c.push_reserved.ensures.items both.2 (
          left,
          place,
          record {
            intake_is = sender.1.0;
            sender = sender.1.1;
            fresh = sender.1.2;
            seat_is = search rules;
            chaincode = named;
            endorser = seat.1.2;
            peer_is = seat.1.0;
            unseen = seat.1.1;
          },
        ),
      ),
)

pub returns-clause-each : goal.returns-clause-each
returns-clause-each c = λ task home called serves fresh. (c.loop-worker.invariant.4 task home called serves fresh).2
