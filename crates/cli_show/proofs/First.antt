-- First ones of lines that are printed, where a task is broken off.
use Rattle.std.proofs.Common.{◌≡◌, List, [], ◌++◌, Option, Some, None, IfSome, Result, Ok, Err, OnErr, Bool, true, false, inl, inr, refl, sym, subst}
use Rattle.serde_json.specs.Data.{Data}
use Rattle.ledger_model.specs.Chain.{Bytes}
use Rattle.cli_lines.specs.Told.{Begins, IsMore, PrintsNothing, Told}
use Rattle.cli_lines.specs.declared.failure.Failure.{Failure}
use Rattle.cli_lines.proofs.Printing.{part_end, part_none}
use Rattle.cli_lines.proofs.Answering.{begins_nothing}
use Rattle.cli_show.specs.Lines.{AreFirstLines, HasLines, PrintsFirst}
use Rattle.cli_show.specs.Findings.{ends_with}
use Rattle.cli_show.proofs.Answering.{lines_printed}

-- ---- lines of JSON

pub first_none : (ds : List Data) (t u : Told) → PrintsNothing t u → PrintsFirst ds t u
first_none ds t u none = ([], ([], ds, refl, ([], tt, refl)), part_none t u [] none)

-- these were printed, and then nothing
pub first_left : (ds shown left : List Data) (t u v : Told) → ds ≡ shown ++ left → IsMore t u → u.failed ≡ t.failed → HasLines shown t.bytes u.bytes →
    PrintsNothing u v → PrintsFirst ds t v
first_left ds shown left t u v is more whole lines none =
    let p = lines_printed shown t u more whole lines in
    (p.0, (shown, left, is, p.1), part_end t u v p.0 p.2 none)

pub begins_first : {A : Type 0} (ds : List Data) (t u : Told) (r : Result A Failure) → OnErr r (PrintsFirst ds t u) → Begins (AreFirstLines ds) t u r
begins_first ds t u (Ok a) first = λ broken. absurd broken
begins_first ds t u (Err f) first = λ broken. inr first

-- ---- the end

-- where there is a fault, nothing was printed
pub fault_begins : (o : Option Failure) (Whole : Bytes → Type 0) (t u : Told) (r : Result (Unit {0}) Failure) →
    IfSome o (λ failure. (r ≡ Err failure) × (u ≡ t)) → (o ≡ None → Begins Whole t u r) → Begins Whole t u r
fault_begins None Whole t u r fault begins = begins refl
fault_begins (Some failure) Whole t u r fault begins = begins_nothing Whole t u r (inl fault.1)

-- who ends by what was found was not broken off
pub ends_whole : (good : Bool) (Whole : Bytes → Type 0) (t u : Told) (r : Result (Unit {0}) Failure) → r ≡ ends_with good None → Begins Whole t u r
ends_whole true Whole t u r is = subst (λ (a : Result (Unit {0}) Failure). Begins Whole t u a) (sym is) (λ broken. absurd broken)
ends_whole false Whole t u r is = subst (λ (a : Result (Unit {0}) Failure). Begins Whole t u a) (sym is) (λ broken. absurd broken)
