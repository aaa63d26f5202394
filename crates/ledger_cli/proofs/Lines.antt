-- The line by which a failure is told at the end.
use Rattle.std.proofs.Common.{◌≡◌, ◌≢◌, ◌++◌, ℕ, List, [], ◌∷◌, Some, IfSome, append-nil, refl}
use Rattle.std.specs.Prelude.{Result, Ok, Err, OnOk}
use Rattle.std.specs.Fmt.{◌++?◌}
use Rattle.cli_lines.specs.Texts.{failure_text}
use Rattle.cli_lines.specs.Told.{Told, Prints}
use Rattle.cli_lines.specs.declared.failure.Failure.{Failure}
use Rattle.cli_lines.specs.declared.failure.Failure.TheVariants as failure
use Rattle.cli_lines.proofs.Printing.{prints_same, prints_then}
use Rattle.ledger_cli.specs.Ends.{PrintsLast, failure_status, last_text}

-- a failure's text with its line's end is its last text, unless it is told otherwise
last_of_text : (command : List ℕ) (f : Failure) (P : List ℕ → Type 0) → f ≢ failure.Usage → f ≢ failure.Printed → f ≢ failure.Output →
    IfSome (failure_text f ++? Some (10 ∷ [])) P → P (last_text command f)
last_of_text command failure.Usage P usage printed output h = absurd (usage refl)
last_of_text command failure.Printed P usage printed output h = absurd (printed refl)
last_of_text command failure.Output P usage printed output h = absurd (output refl)
last_of_text command _ P usage printed output h = h

-- the same where a text was printed
pub last_if_printed : {A E : Type 0} (command : List ℕ) (r : Result A E) (f : Failure) (P : List ℕ → Type 0) → f ≢ failure.Usage → f ≢ failure.Printed →
    f ≢ failure.Output → OnOk r (IfSome (failure_text f ++? Some (10 ∷ [])) P) → OnOk r (P (last_text command f))
last_if_printed command (Ok a) f P usage printed output h = last_of_text command f P usage printed output h
last_if_printed command (Err e) f P usage printed output h = tt

-- a text that was printed stays so where it is handed on
pub last_kept : (command : List ℕ) (f : Failure) (t u v : Told) → PrintsLast command f t u → Prints u v [] → PrintsLast command f t v
last_kept command f t u v h kept =
    let text = last_text command f in
    prints_same t v (text ++ []) text (append-nil text) (prints_then t u v text [] h kept)

pub other_status : (f : Failure) → f ≢ failure.Usage → failure_status f ≡ 1
other_status failure.Usage other = absurd (other refl)
other_status _ other = refl
