use Rattle.std.proofs.Common.{◌≡◌, ◌+◌, ◌++◌, List, length}
use Rattle.intake.specs.Seats.{knows}
use Rattle.snapshot_cell.specs.Seats.{cell_of_told, told_list}
use Rattle.peer_node.specs.Writers.{peer_of_writer}
use Rattle.seat_threads.specs.Desks.{IsAtWork, IsSameDesk, home_of}
use Rattle.seat_threads.specs.Rounds.{Outcome}
use Rattle.seat_threads.specs.Work.{Task, AllPromise, AllCameTo, total_of, puts_of}
use Rattle.seat_threads.proofs.crew.Crew.retire.Given as goal

abbrev pub invariant-loop-joined : goal.invariant-loop-joined
invariant-loop-joined g l =
    let all = l.fn.self.threads.items in
    let left = l.threads.items in
    let home = home_of l.fn.desk in
    IsAtWork l.desk × IsSameDesk l.desk l.fn.desk × ((knows l.desk.receiver).senders ≡ (knows l.fn.desk.receiver).senders)
    × (length left + l._joined ≡ length all)
    × ((task : Task) → AllPromise task home all →
    AllPromise task home left
    × ((outcomes : List (List Outcome)) × (length outcomes ≡ l._joined) × AllCameTo task (told_list l.seen) (length left) outcomes × (l.counts ≡ total_of outcomes)
    × ((knows l.desk.receiver).known ≡ (knows l.fn.desk.receiver).known ++ puts_of (length left) outcomes)))
    × (cell_of_told l.seen ≡ peer_of_writer l.fn.desk.writer)
