-- A filter: it reads lines, and prints of each what it comes to.
use Rattle.std.specs.Prelude.{◌≡◌, ◌⊎◌, ℕ, ◌+◌, List, [], ◌∷◌, ◌++◌, Option, Result, Ok, Err, length}
use Rattle.cli_lines.specs.declared.failure.Failure.{Failure}
use Rattle.cli_lines.specs.declared.failure.Failure.TheVariants as failure
use Rattle.cli_lines.specs.Texts.{line}
use Rattle.cli_lines.specs.Told.{Told, Prints, PrintsNothing, PrintsPart, IsBrokenOff}
use Rattle.cli_peer.specs.Input.{AreAll, AreFirst}

-- A task is done, or it ends the filter, and why is printed: by the text
abbrev pub DoesOrEnds : {A : Type 0} → (Does Ends : List ℕ → Type 0) → Result A Failure → List ℕ → Type 0
DoesOrEnds Does Ends (Ok done) text = Does text
DoesOrEnds Does Ends (Err cause) text = (cause ≡ failure.Printed) × Ends text

-- These lines are done one after another. `Does` says of one by its number, from this one on, and by what the filter has, what is printed and what the
-- filter has then
abbrev pub AreDone : {S : Type 0} → (ℕ → S → List ℕ → List ℕ → S → Type 0) → ℕ → S → List (List ℕ) → List ℕ → S → Type 0
AreDone Does number old [] text new = (text ≡ []) × (new ≡ old)
AreDone {S} Does number old (l ∷ ls) text new =
    (front rest : List ℕ) × (mid : S) × Does number old l front mid × AreDone Does (number + 1) mid ls rest new × (text ≡ front ++ rest)

-- the last of these lines ends the filter, behind the others, which are done and lead there
abbrev pub EndAtLast : {S : Type 0} → (ℕ → S → List ℕ → List ℕ → S → Type 0) → (ℕ → S → List ℕ → List ℕ → Type 0) → S → List (List ℕ) → List ℕ → S
    → Type 0
EndAtLast Does Ends old lines text new =
    (before : List (List ℕ)) × (l front rest : List ℕ) × (lines ≡ before ++ l ∷ []) × AreDone Does 1 old before front new
    × Ends (length before + 1) new l rest × (text ≡ front ++ rest)

-- What a filter comes to by its input, where that is known: at its end all lines are done, or the last of the first lines ends it
abbrev pub Filters : {A S : Type 0} → (ℕ → S → List ℕ → List ℕ → S → Type 0) → (ℕ → S → List ℕ → List ℕ → Type 0) → S → Option (List ℕ)
    → Result A Failure → List ℕ → Type 0
Filters {A} {S} Does Ends old input answer text =
    (lines : List (List ℕ)) × DoesOrEnds (λ t. AreAll input lines × ((new : S) × AreDone Does 1 old lines t new))
    (λ t. AreFirst input lines × ((last : S) × EndAtLast Does Ends old lines t last)) answer text

-- What some first lines of its input come to, and what the filter has behind them: all of them are done, or the last ends it
abbrev pub FiltersTo : {S : Type 0} → (ℕ → S → List ℕ → List ℕ → S → Type 0) → (ℕ → S → List ℕ → List ℕ → Type 0) → S → Option (List ℕ) → List ℕ → S
    → Type 0
FiltersTo Does Ends old input text new =
    (lines : List (List ℕ)) × AreFirst input lines × (AreDone Does 1 old lines text new ⊎ EndAtLast Does Ends old lines text new)

-- A filter that is broken off printed a beginning of such a text
abbrev pub FiltersBegin : {S : Type 0} → (ℕ → S → List ℕ → List ℕ → S → Type 0) → (ℕ → S → List ℕ → List ℕ → Type 0) → S → Option (List ℕ) → List ℕ
    → Type 0
FiltersBegin {S} Does Ends old input text = (new : S) × FiltersTo Does Ends old input text new

-- a text that a task comes to: it is done, or it ends the filter
abbrev pub ComesTo : (Does Ends : List ℕ → Type 0) → List ℕ → Type 0
ComesTo Does Ends text = Does text ⊎ Ends text

-- why a filter ends is printed as a line, unless that was broken off
abbrev pub IsEndedBy : List ℕ → (before after : Told) → Failure → Type 0
IsEndedBy said before after r = (IsBrokenOff r × PrintsNothing before after) ⊎ ((r ≡ failure.Printed) × Prints before after (line said))

-- some text of which this is so was printed
abbrev pub PrintsSo : (List ℕ → Type 0) → (before after : Told) → Type 0
PrintsSo Is before after = (text : List ℕ) × Is text × Prints before after text

-- nothing was printed, or a beginning of some text of which this is so
abbrev pub BeginsSo : (List ℕ → Type 0) → (before after : Told) → Type 0
BeginsSo Is before after = PrintsNothing before after ⊎ ((whole : List ℕ) × Is whole × PrintsPart before after whole)
