use Rattle.std.proofs.Common.{◌≡◌, ◌++◌, ◌∷◌, [], ℕ, List, length, sym, subst}
use Rattle.std.specs.declared.thread.PromisedHandle.{PromisedHandle}
use Rattle.seat_threads.specs.declared.crew.Rounds.{Rounds}
use Rattle.seat_threads.specs.declared.worker.Worker.{Worker}
use Rattle.seat_threads.specs.Work.{IsWorkerOf, AllPromise}
use Rattle.seat_threads.proofs.Places.{pushed}
use Rattle.seat_threads.proofs.crew.Crew.start.Goals as goal

pub returns-clause-each : goal.returns-clause-each
returns-clause-each g c = λ task home same is all.
    let threads = c.args.self.now.threads.items in
    let thread = c.in_ok-thread.thread in
    let P : ℕ → PromisedHandle Worker Rounds → Type 0 =
    λ seat t. IsWorkerOf task home seat t.promise.worker.value × (t.promise.rounds ≡ task.rounds) in
    let longer : c.push_reserved.new.self.items ≡ threads ++ thread ∷ [] = c.push_reserved.ensures.items in
    let worker = subst (λ (w : Worker). IsWorkerOf task home (length threads) w) (sym c.of.ensures) is in
    let here : P (length threads) thread =
    subst (λ (p : Rounds). IsWorkerOf task home (length threads) p.worker.value × (p.rounds ≡ task.rounds)) (sym c.in_ok-thread.ensures) (worker, same) in
    subst (λ (ts : List (PromisedHandle Worker Rounds)). AllPromise task home ts) (sym longer) (pushed P threads thread all here)
