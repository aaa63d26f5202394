use Rattle.std.proofs.Common.{◌≡◌, ◌≤◌, ◌+◌, length}
use Rattle.std.specs.Prelude.{vec_capacity}
use Rattle.seat_threads.specs.Work.{Task, Home, AreWorkersOf, AllPromise}
use Rattle.seat_threads.proofs.crew.Crew.start_all.Given as goal

abbrev pub invariant-loop-started : goal.invariant-loop-started
invariant-loop-started g l =
    let threads = l.self.threads in
    let all = l.fn.workers.items in
    (length l.workers.items + l._started ≡ length all) × (length threads.items ≡ l._started) × (length all ≤ vec_capacity threads)
    × ((task : Task) (home : Home) → l.fn.rounds ≡ task.rounds → AreWorkersOf task home (length all) all →
    AreWorkersOf task home (length all) l.workers.items × AllPromise task home threads.items)
