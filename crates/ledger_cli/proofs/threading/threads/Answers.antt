use Rattle.std.proofs.Common.{[], List, ℕ, Err, take, inl, inr, refl, sym, ap, subst, ◌∙◌}
use Rattle.std.proofs.lemmas.Result.{err_from_is_err_and}
use Rattle.std.specs.List.{list_any}
use Rattle.cli_lines.specs.Sealing.{lacks_seed}
use Rattle.cli_lines.specs.Told.{IsTextOf}
use Rattle.cli_lines.proofs.Answering.{answers_by, begins_by}
use Rattle.cli_lines.proofs.Printing.{nothing_same, prints_none}
use Rattle.cli_lines.proofs.Silence.{no_less, tells_by}
use Rattle.seat_threads.specs.Reports.{IsSeatsRefused, task_of}
use Rattle.seat_threads.specs.declared.refusal.SeatsRefusal.{SeatsRefusal}
use Rattle.seat_threads.specs.declared.refusal.SeatsRefusal.TheVariants as seats
use Rattle.ledger_cli.specs.Seats.{RunsSeats, TellsReport}
use Rattle.ledger_cli.proofs.threading.threads.Goals as goal

pub returns-in_err-need_seeds : goal.returns-in_err-need_seeds
returns-in_err-need_seeds g c =
    let p = err_from_is_err_and c.from_residual.result c.from_residual.ensures.1 in
    let t = c.args.out.now in
    let e = c.in_err-need_seeds.ensures in
    let genesis = c.args.genesis.now in
    let lacks = ap (λ (orgs : List (List ℕ)). list_any (lacks_seed genesis.rules.value genesis.signers.value) (take 1 orgs)) (sym c.deref.ensures.value)
    ∙ e.refused (ap Err e.only) in
    rw (p.1, p.2) (record {
      tells = tells_by t t _ (no_less t) e.silent;
      answers = inr ([], inl (lacks, ap Err e.only, refl), prints_none t);
      begins = λ broken. inl (nothing_same t);
      kept = c.in_err-need_seeds.ensures.kept;
    })

pub returns-in-Ok-clause-answers : goal.returns-in-Ok-clause-answers
returns-in-Ok-clause-answers g c =
    let genesis = c.args.genesis.now in
    let has = ap (λ (orgs : List (List ℕ)). list_any (lacks_seed genesis.rules.value genesis.signers.value) (take 1 orgs)) (sym c.deref.ensures.value)
    ∙ c.in_ok-need_seeds.ensures.ok refl in
    let r = c.in-Ok.report in
    let told = c.print_report in
    answers_by (TellsReport r) (RunsSeats genesis c.args.chaincode.now c.args.rounds) c.args.out.now told.new.out told.result
    (λ text h. inr (has, inl (r, c.in-Ok.ensures.tells, h))) told.ensures.answers

pub returns-in-Ok-clause-begins : goal.returns-in-Ok-clause-begins
returns-in-Ok-clause-begins g c =
    let genesis = c.args.genesis.now in
    let has = ap (λ (orgs : List (List ℕ)). list_any (lacks_seed genesis.rules.value genesis.signers.value) (take 1 orgs)) (sym c.deref.ensures.value)
    ∙ c.in_ok-need_seeds.ensures.ok refl in
    let r = c.in-Ok.report in
    let told = c.print_report in
    begins_by (IsTextOf (TellsReport r)) (IsTextOf (RunsSeats genesis c.args.chaincode.now c.args.rounds)) c.args.out.now told.new.out told.result
    (λ text h. (h.0, inr (has, inl (r, c.in-Ok.ensures.tells, h.1)))) told.ensures.begins

pub returns-in-Err-NoPlace-clause-answers : goal.returns-in-Err-NoPlace-clause-answers
returns-in-Err-NoPlace-clause-answers g c =
    let genesis = c.args.genesis.now in
    let has = ap (λ (orgs : List (List ℕ)). list_any (lacks_seed genesis.rules.value genesis.signers.value) (take 1 orgs)) (sym c.deref.ensures.value)
    ∙ c.in_ok-need_seeds.ensures.ok refl in
    let a = c.in-Err-NoPlace in
    let task = task_of genesis c.args.chaincode.now c.args.rounds in
    let why = subst (λ (e : SeatsRefusal). IsSeatsRefused task genesis.seats e) a.field-0-is a.ensures.refused in
    inr ([], inr (has, inr (seats.NoPlace, why, refl, refl)), prints_none c.args.out.now)

pub returns-in-Err-NotEntered-clause-answers : goal.returns-in-Err-NotEntered-clause-answers
returns-in-Err-NotEntered-clause-answers g c =
    let genesis = c.args.genesis.now in
    let has = ap (λ (orgs : List (List ℕ)). list_any (lacks_seed genesis.rules.value genesis.signers.value) (take 1 orgs)) (sym c.deref.ensures.value)
    ∙ c.in_ok-need_seeds.ensures.ok refl in
    let a = c.in-Err-NotEntered in
    let task = task_of genesis c.args.chaincode.now c.args.rounds in
    let why = subst (λ (e : SeatsRefusal). IsSeatsRefused task genesis.seats e) a.field-0-is a.ensures.refused in
    inr ([], inr (has, inr (seats.NotEntered, why, refl, refl)), prints_none c.args.out.now)

pub returns-in-Err-Memory-clause-begins : goal.returns-in-Err-Memory-clause-begins
returns-in-Err-Memory-clause-begins g c = λ broken. inl (nothing_same c.args.out.now)

pub returns-in-Err-NoPlace-clause-begins : goal.returns-in-Err-NoPlace-clause-begins
returns-in-Err-NoPlace-clause-begins g c = λ broken. inl (nothing_same c.args.out.now)

pub returns-in-Err-NotEntered-clause-begins : goal.returns-in-Err-NotEntered-clause-begins
returns-in-Err-NotEntered-clause-begins g c = λ broken. inl (nothing_same c.args.out.now)

pub returns-in-Ok-clause-kept : goal.returns-in-Ok-clause-kept
returns-in-Ok-clause-kept g c = c.in_ok-need_seeds.ensures.kept

pub returns-in-Err-Memory-clause-kept : goal.returns-in-Err-Memory-clause-kept
returns-in-Err-Memory-clause-kept g c = c.in_ok-need_seeds.ensures.kept

pub returns-in-Err-NoPlace-clause-kept : goal.returns-in-Err-NoPlace-clause-kept
returns-in-Err-NoPlace-clause-kept g c = c.in_ok-need_seeds.ensures.kept

pub returns-in-Err-NotEntered-clause-kept : goal.returns-in-Err-NotEntered-clause-kept
returns-in-Err-NotEntered-clause-kept g c = c.in_ok-need_seeds.ensures.kept
