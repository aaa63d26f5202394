use Rattle.std.proofs.Common.{rules, ◌≡◌, ◌+◌, ℕ, length, arith}
use Rattle.seat_threads.specs.declared.worker.Worker.{Worker}
use Rattle.seat_threads.specs.Work.{Task, Home, IsWorkerOf}
use Rattle.seat_threads.proofs.Places.{taken}
use Rattle.seat_threads.proofs.Retiring.{next_seat}
use Rattle.seat_threads.proofs.crew.Crew.start_all.Goals as goal

-- the worker at a place of the list is that of a seat
abbrev IsPlaced : Task → Home → ℕ → ℕ → Worker → Type 0
IsPlaced task home seats place w = (seat : ℕ) × (place + seat + 1 ≡ seats) × IsWorkerOf task home seat w

pub loop-started-preserved : goal.loop-started-preserved
loop-started-preserved g c =
    let inv = c.loop-started.invariant in
    let seats = length c.args.workers.now.items in
    let left = length c.take_last.new.self.items in
    let started = length c.loop-started.self.threads.items in (
      search rules,
      search rules,
      omega (arith, inv.2, c.start.ensures.room),
      λ task home same h.
          let both = inv.3 task home same h in
          let last = taken (IsPlaced task home seats) c.loop-started.workers.items _ c.take_last.result c.take_last.ensures.items both.0 in
          let here : left + 1 + started ≡ seats = omega (arith, last.2, inv.0, inv.1) in
          (last.0, c.start.ensures.each task home same (next_seat task home seats left started c.take_last.result last.1 here) both.1),
    )

pub returns-in_err-ended-clause-each : goal.returns-in_err-ended-clause-each
returns-in_err-ended-clause-each g c = λ task home same h. (c.loop-started.invariant.3 task home same h).1

pub returns-in_err-start-clause-each : goal.returns-in_err-start-clause-each
returns-in_err-start-clause-each g c = λ task home same h.
    let inv = c.loop-started.invariant in
    let seats = length c.args.workers.now.items in
    let left = length c.take_last.new.self.items in
    let started = length c.loop-started.self.threads.items in
    let both = inv.3 task home same h in
    let last = taken (IsPlaced task home seats) c.loop-started.workers.items _ c.take_last.result c.take_last.ensures.items both.0 in
    let here : left + 1 + started ≡ seats = omega (arith, last.2, inv.0, inv.1) in
    c.start.ensures.each task home same (next_seat task home seats left started c.take_last.result last.1 here) both.1

pub returns-in_err-start-clause-most : goal.returns-in_err-start-clause-most
returns-in_err-start-clause-most g c =
    let inv = c.loop-started.invariant in
    let most = c.start.ensures.most in
    omega (arith, most, inv.0, inv.1)

pub returns-clause-each : goal.returns-clause-each
returns-clause-each g c = λ task home same h. (c.loop-started.invariant.3 task home same h).1
