use Rattle.seat_threads.proofs.Rounding.{HasWorked}
use Rattle.seat_threads.proofs.worker.Worker.work.Given as goal

abbrev pub invariant-loop-round : goal.invariant-loop-round
invariant-loop-round g l = HasWorked l.fn.self l.round l.self
