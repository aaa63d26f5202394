-- What tasks come to that find whether all is well.
use Rattle.std.proofs.Common.{◌≡◌, ◌<◌, ◌++◌, ℕ, List, true, false, Bool, Result, Ok, Err, IfOk, IfErr, OnOk, ap, inl, inr, refl}
use Rattle.std.specs.Prelude.{OnErr}
use Rattle.seat_threads.specs.declared.running.Report.{Report}
use Rattle.cli_lines.specs.Lines.{does_agree}
use Rattle.cli_lines.specs.Told.{Told, Answers, Begins, IsBrokenOff, IsTextOf, Prints, PrintsNothing, PrintsPart, Tells}
use Rattle.cli_lines.specs.declared.failure.Failure.{Failure}
use Rattle.cli_lines.proofs.Answering.{begins_part}
use Rattle.cli_lines.proofs.Printing.{part_none, part_then}
use Rattle.ledger_cli.specs.Seats.{TellsReport, report_text}
use Rattle.ledger_cli.specs.Verdicts.{verdict_answer}

pub verdict_tells : (t u : Told) (v : Result Bool Failure) → Tells t u v → IfOk v (λ good. good ≡ false → t.printed < u.printed) →
    Tells t u (verdict_answer v)
verdict_tells t u (Ok true) tells differs = tells
verdict_tells t u (Ok false) tells differs = (tells.0, differs refl)
verdict_tells t u (Err f) tells differs = tells

pub verdict_told : (P : Result Bool Failure → List ℕ → Type 0) (Q : Result (Unit {0}) Failure → List ℕ → Type 0) (t u : Told) (v : Result Bool Failure) →
    ((text : List ℕ) → P v text → Q (verdict_answer v) text) → Answers P t u v → Answers Q t u (verdict_answer v)
verdict_told P Q t u (Ok good) step (inl broken) = absurd broken
verdict_told P Q t u (Err f) step (inl broken) = inl broken
verdict_told P Q t u v step (inr a) = inr (a.0, step a.0 a.1, a.2)

-- the same of what was begun
pub verdict_begins : (Whole : List ℕ → Type 0) (t u : Told) (v : Result Bool Failure) → Begins Whole t u v → Begins Whole t u (verdict_answer v)
verdict_begins Whole t u (Ok true) begins = λ broken. absurd broken
verdict_begins Whole t u (Ok false) begins = λ broken. absurd broken
verdict_begins Whole t u (Err f) begins = begins

-- a text that was printed, behind it a text that was not, and others
pub broken_behind : (t u v : Told) (front rest : List ℕ) → Prints t u front → PrintsNothing u v → PrintsPart t v (front ++ rest)
broken_behind t u v front rest prints none = part_then t u v front rest prints (part_none u v rest none)

-- the report of seats, where a beginning of it was printed
pub seats_begun : (report : Report) (t u : Told) (v : Result Bool Failure) → OnErr v (PrintsPart t u (report_text report)) →
    Begins (IsTextOf (TellsReport report)) t u (verdict_answer v)
seats_begun report t u v part =
    verdict_begins (IsTextOf (TellsReport report)) t u v
    (begins_part (IsTextOf (TellsReport report)) t u v (report_text report) (verdict_answer (Ok (does_agree report.audit)), (refl, refl)) part)

-- the report of seats, where it was printed
pub seats_told : (report : Report) (t u : Told) (v : Result Bool Failure) → IfOk v (λ good. good ≡ does_agree report.audit) → IfErr v IsBrokenOff →
    OnOk v (Prints t u (report_text report)) → Answers (TellsReport report) t u (verdict_answer v)
seats_told report t u (Ok true) good lost prints = inr (report_text report, (ap (λ (b : Bool). verdict_answer (Ok b)) good, refl), prints)
seats_told report t u (Ok false) good lost prints = inr (report_text report, (ap (λ (b : Bool). verdict_answer (Ok b)) good, refl), prints)
seats_told report t u (Err f) good lost prints = inl lost
