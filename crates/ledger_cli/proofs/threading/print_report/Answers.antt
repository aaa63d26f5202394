use Rattle.std.proofs.Common.{Result, subst, sym}
use Rattle.cli_lines.specs.Told.{Answers, Begins, IsTextOf, Tells}
use Rattle.cli_lines.specs.declared.failure.Failure.{Failure}
use Rattle.ledger_cli.specs.Seats.{TellsReport}
use Rattle.ledger_cli.proofs.Verdicts.{seats_begun, seats_told, verdict_tells}
use Rattle.ledger_cli.proofs.threading.print_report.Goals as goal

pub returns-clause-tells : goal.returns-clause-tells
returns-clause-tells g c =
    let r = c.print_seats in
    subst (λ (a : Result (Unit {0}) Failure). Tells c.args.out.now r.new.out a) (sym c.answer_of.ensures)
    (verdict_tells c.args.out.now r.new.out r.result r.ensures.tells r.ensures.differs)

pub returns-clause-answers : goal.returns-clause-answers
returns-clause-answers g c =
    let r = c.print_seats in
    let e = r.ensures in
    subst (λ (a : Result (Unit {0}) Failure). Answers (TellsReport c.args.report) c.args.out.now r.new.out a) (sym c.answer_of.ensures)
    (seats_told c.args.report c.args.out.now r.new.out r.result e.good e.lost e.prints)

pub returns-clause-begins : goal.returns-clause-begins
returns-clause-begins g c =
    let r = c.print_seats in
    subst (λ (a : Result (Unit {0}) Failure). Begins (IsTextOf (TellsReport c.args.report)) c.args.out.now r.new.out a) (sym c.answer_of.ensures)
    (seats_begun c.args.report c.args.out.now r.new.out r.result r.ensures.part)
