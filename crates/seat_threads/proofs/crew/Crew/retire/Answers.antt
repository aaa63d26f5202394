use Rattle.std.proofs.Common.{rules, ◌≡◌, ◌<◌, ◌*◌, ◌^◌, ◌++◌, ◌∷◌, ◌∙◌, ℕ, length, sym, ap, ap₂, subst, arith}
use Rattle.std.specs.declared.thread.PromisedHandle.{PromisedHandle}
use mathlib.Core.List.{IsPrefix}
use Rattle.ledger_model.specs.Chain.{Chain}
use Rattle.snapshot_cell.specs.Seats.{told_list}
use Rattle.intake.specs.Seats.{knows, number, put}
use Rattle.seat_threads.specs.declared.crew.Rounds.{Rounds}
use Rattle.seat_threads.specs.declared.worker.Worker.{Worker}
use Rattle.seat_threads.specs.Desks.{home_of}
use Rattle.seat_threads.specs.Rounds.{rounds_in, sum_of}
use Rattle.seat_threads.specs.Work.{Task, Home, IsWorkerOf, AllCameTo, puts_of}
use Rattle.seat_threads.proofs.Places.{taken}
use Rattle.seat_threads.proofs.Retiring.{came_before, has_ended, known_more}
use Rattle.seat_threads.proofs.Sums.{bounded, counted, totalled}
use Rattle.seat_threads.proofs.crew.Crew.retire.Goals as goal

-- the thread at a place promises the work of the seat of this number
abbrev IsOf : Task → Home → ℕ → PromisedHandle Worker Rounds → Type 0
IsOf task home seat t = IsWorkerOf task home seat t.promise.worker.value × (t.promise.rounds ≡ task.rounds)

pub retire-requires-clause-intake : goal.retire-requires-clause-intake
retire-requires-clause-intake g c =
    let inv = c.loop-joined.invariant in
    let home = home_of c.args.desk.now in
    let thread = c.take_last-thread.result in
    let task = c.requires.each.0 in
    let both = inv.4 task c.requires.each.2 in
    let last = taken (IsOf task home) c.loop-joined.threads.items _ thread c.take_last-thread.ensures.items both.0 in
    let ended = has_ended task home _ thread.promise.rounds thread.promise.worker.value c.join-worker.result last.1.0 last.1.1 c.join-worker.ensures in
    ended.intake_is ∙ sym inv.1.0

-- the seat is of the desk's peer
pub learn-requires : goal.learn-requires
learn-requires g c =
    let inv = c.loop-joined.invariant in
    let home = home_of c.args.desk.now in
    let thread = c.take_last-thread.result in
    let task = c.requires.each.0 in
    let both = inv.4 task c.requires.each.2 in
    let last = taken (IsOf task home) c.loop-joined.threads.items _ thread c.take_last-thread.ensures.items both.0 in
    let ended = has_ended task home _ thread.promise.rounds thread.promise.worker.value c.join-worker.result last.1.0 last.1.1 c.join-worker.ensures in
    c.told.ensures.0 ∙ (ended.peer_is ∙ sym inv.5)

pub plus-counts-requires : goal.plus-counts-requires
plus-counts-requires g c =
    let inv = c.loop-joined.invariant in
    let home = home_of c.args.desk.now in
    let thread = c.take_last-thread.result in
    let task = c.requires.each.0 in
    let joined = c.loop-joined._joined in
    let both = inv.4 task c.requires.each.2 in
    let last = taken (IsOf task home) c.loop-joined.threads.items _ thread c.take_last-thread.ensures.items both.0 in
    let ended = has_ended task home _ thread.promise.rounds thread.promise.worker.value c.join-worker.result last.1.0 last.1.1 c.join-worker.ensures in
    let few : joined < 2 ^ 32 = omega (arith, c.requires.count, inv.3) in
    let most = bounded joined task.rounds few c.requires.each.1 in
    let before : rounds_in c.loop-joined.counts ≡ joined * task.rounds =
    ap rounds_in both.1.3 ∙ (totalled task (told_list c.loop-joined.seen) _ both.1.0 both.1.2 ∙ ap (λ (k : ℕ). k * task.rounds) both.1.1) in
    let here : rounds_in c.join-worker.result.counts ≡ task.rounds = ap rounds_in ended.counted ∙ (counted ended.outcomes ∙ ended.came.0) in
    omega (arith, most, before, here)

pub loop-joined-preserved : goal.loop-joined-preserved
loop-joined-preserved g c =
    let inv = c.loop-joined.invariant in
    let same = c.retire.ensures.same in
    let home = home_of c.args.desk.now in
    let thread = c.take_last-thread.result in
    let seat = length c.take_last-thread.new.self.items in
    let left = length c.loop-joined.threads.items in
    let seen = told_list c.loop-joined.seen in
    let whole = told_list c.learn.new.self in (
      c.retire.ensures.work,
      (same.0 ∙ inv.1.0, same.1 ∙ inv.1.1, same.2 ∙ inv.1.2, same.3 ∙ inv.1.3, same.4 ∙ inv.1.4, same.5 ∙ inv.1.5),
      c.retire.ensures.senders ∙ inv.2,
      search rules,
      λ task all.
          let both = inv.4 task all in
          let last = taken (IsOf task home) c.loop-joined.threads.items _ thread c.take_last-thread.ensures.items both.0 in
          let ended = has_ended task home seat thread.promise.rounds thread.promise.worker.value c.join-worker.result last.1.0 last.1.1 c.join-worker.ensures in
          let others = came_before task seen whole left both.1.0 c.learn.ensures.mine both.1.2 in
          let mine = subst (λ (l : Chain). IsPrefix l whole) c.told.ensures.1 c.learn.ensures.others in (
            last.0,
            (
              ended.outcomes ∷ both.1.0,
              omega (arith, both.1.1),
              ((_, ended.came, mine), subst (λ (n : ℕ). AllCameTo task whole n both.1.0) last.2 others),
              c.plus-counts.ensures ∙ ap₂ sum_of ended.counted both.1.3,
              known_more (knows c.args.desk.now.receiver).known _ _ seat left (number c.join-worker.result.sender) (put c.join-worker.result.sender)
                  ended.outcomes
                  both.1.0 c.retire.ensures.known both.1.4 last.2 ended.sender ended.sent,
            ),
          ),
      c.learn.ensures.same ∙ inv.5,
    )

pub returns-clause-retired : goal.returns-clause-retired
returns-clause-retired g c = λ task all.
    let inv = c.loop-joined.invariant in
    let left = length c.loop-joined.threads.items in
    let end : c.loop-joined._joined ≡ length c.args.self.threads.items = search rules in
    let none : left ≡ 0 = omega (arith, inv.3, end) in
    let both = inv.4 task all in
    record {
      outcomes = both.1.0;
      seats_are = both.1.1 ∙ end;
      came = subst (λ (n : ℕ). AllCameTo task (told_list c.loop-joined.seen) n both.1.0) none both.1.2;
      counted = both.1.3;
      known = both.1.4 ∙ ap (λ (n : ℕ). (knows c.args.desk.now.receiver).known ++ puts_of n both.1.0) none;
    }
