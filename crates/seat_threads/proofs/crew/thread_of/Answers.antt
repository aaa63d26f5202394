use Rattle.std.proofs.Common.{rules, sym, subst}
use denote.Param.Send.{sendable}
use Rattle.std.proofs.Crossing.{crosses}
use Rattle.seat_threads.proofs.Sending.{send_worker}
use Rattle.seat_threads.specs.declared.worker.Worker.{Worker}
use Rattle.seat_threads.specs.Work.{Works}
use Rattle.seat_threads.proofs.crew.thread_of.Goals as goal

pub spawn_with-requires-send-F : goal.spawn_with-requires-send-F
spawn_with-requires-send-F g c κs within = search (sendable, crosses, send_worker) depth 20

pub spawn_with-requires-send-T : goal.spawn_with-requires-send-T
spawn_with-requires-send-T g c κs within = search (sendable, send_worker)

pub spawn_with-requires-clause-keeps : goal.spawn_with-requires-clause-keeps
spawn_with-requires-clause-keeps g c κs within = λ worked ended.
    let works : Works c.args.promise.rounds c.args.worker worked = search rules in
    subst (λ (w : Worker). Works c.args.promise.rounds w worked) (sym c.requires) works
