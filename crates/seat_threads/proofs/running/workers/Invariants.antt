use Rattle.std.proofs.Common.{◌≡◌, ◌≤◌, ◌+◌, All, length}
use Rattle.std.specs.Prelude.{vec_capacity}
use Rattle.peer_node.specs.Seats.{IsSeat}
use Rattle.seat_threads.specs.Work.{Task, Home, AreSenders, AreWorkersOf}
use Rattle.seat_threads.proofs.running.workers.Given as goal

abbrev pub invariant-loop-worker : goal.invariant-loop-worker
invariant-loop-worker l =
    let all = l.fn.senders.items in
    (length l.workers.items ≡ l._worker) × (length l.seats.items + l._worker ≡ length all) × (length l.senders.items + l._worker ≡ length all)
    × (length all ≤ vec_capacity l.workers)
    × ((task : Task) (home : Home) → task.chaincode ≡ l.chaincode → All (IsSeat task.endorsing home.peer) l.fn.seats.items →
    AreSenders home.intake all →
    All (IsSeat task.endorsing home.peer) l.seats.items × AreSenders home.intake l.senders.items
    × AreWorkersOf task home (length all) l.workers.items)
