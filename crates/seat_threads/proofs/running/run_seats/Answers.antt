use Rattle.std.proofs.Common.{Bool, ℕ, refl, sym, subst}
use Rattle.batch_cutter.specs.Division.{Limits}
use Rattle.seat_threads.specs.Desks.{home_of}
use Rattle.seat_threads.specs.Reports.{task_of, TellsOfSeats, IsWorkRefused}
use Rattle.seat_threads.specs.Work.{AreWorkersOf}
use Rattle.seat_threads.proofs.Telling.{refused_at_work, if_ok, if_err}
use Rattle.seat_threads.proofs.running.run_seats.Goals as goal

pub at_work-report-requires-clause-workers : goal.at_work-report-requires-clause-workers
at_work-report-requires-clause-workers g c κs within =
    let task = task_of c.args.genesis.now c.args.chaincode.now c.args.rounds in
    let opened = c.in_ok-workers.ensures in (
      task,
      refl,
      subst (λ (n : ℕ). AreWorkersOf task (home_of c.in_ok-workers.desk) n c.in_ok-workers.workers.items) (sym opened.count)
          (opened.workers c.args.rounds),
    )

pub returns-clause-tells : goal.returns-clause-tells
returns-clause-tells g c =
    let genesis = c.args.genesis.now in
    let task = task_of genesis c.args.chaincode.now c.args.rounds in
    let opened = c.in_ok-workers.ensures in
    let workers = subst (λ (n : ℕ). AreWorkersOf task (home_of c.in_ok-workers.desk) n c.in_ok-workers.workers.items) (sym opened.count)
    (opened.workers c.args.rounds) in
    if_ok _ _ c.at_work-report.result
    (λ r h.
    let tells = h task refl refl refl (sym opened.rules) opened.ordering.2 workers in
    let seats = subst (λ (n : ℕ). TellsOfSeats task n c.in_ok-workers.desk.orderer.reorder c.in_ok-workers.desk.orderer.limits r) opened.count tells in
    let reorder = subst (λ (b : Bool). TellsOfSeats task genesis.seats b c.in_ok-workers.desk.orderer.limits r) opened.ordering.0 seats in
    subst (λ (l : Limits). TellsOfSeats task genesis.seats genesis.reorder l r) opened.ordering.1 reorder)
    c.at_work-report.ensures.tells

pub returns-clause-refused : goal.returns-clause-refused
returns-clause-refused g c =
    let genesis = c.args.genesis.now in
    let task = task_of genesis c.args.chaincode.now c.args.rounds in
    let opened = c.in_ok-workers.ensures in
    let workers = subst (λ (n : ℕ). AreWorkersOf task (home_of c.in_ok-workers.desk) n c.in_ok-workers.workers.items) (sym opened.count)
    (opened.workers c.args.rounds) in
    if_err _ _ c.at_work-report.result
    (λ r h. refused_at_work task genesis.seats r (subst (λ (n : ℕ). IsWorkRefused task n r) opened.count (h task refl workers)))
    c.at_work-report.ensures.refused
