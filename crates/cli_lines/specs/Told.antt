-- What the program tells by the lines that it prints.
use Rattle.std.specs.Prelude.{◌≡◌, ◌<◌, ◌≤◌, ◌⊎◌, ◌++◌, ℕ, List, Bool, true, false, Option, Result, Ok, Err, IfSome}
use Rattle.std.specs.Io.KnownBytes.{Appends, Keeps}
use Rattle.cli_lines.specs.declared.failure.Failure.{Failure}
use Rattle.cli_lines.specs.declared.failure.Failure.TheVariants as failure

-- how many texts were printed, whether one could not be, whether one may wait to be handed on, and, where that is known, the bytes that were printed,
-- behind those that the writer held, and those that it holds
pub record Told : Type 0 where
  pub printed : ℕ
  pub failed : Bool
  pub waits : Bool
  pub bytes : Option (List ℕ)
  pub handed : Option (List ℕ)

abbrev pub nothing_told : Option (List ℕ) → Told
nothing_told bytes = record { printed = 0; failed = false; waits = false; bytes = bytes; handed = bytes }

-- no text waits: the writer holds all that was printed, unless one could not be printed or handed on
abbrev pub IsHandedOn : Told → Type 0
IsHandedOn told = told.failed ≡ false → (told.waits ≡ false) × Keeps told.bytes told.handed

-- nothing of it is taken back
pub record IsMore (before after : Told) : Type 0 where
  pub prints : before.printed ≤ after.printed
  pub fails : before.failed ≡ true → after.failed ≡ true

-- Each text of a task was printed. Together they are these bytes, which stand behind what the writer held, where that is known
pub record Prints (before after : Told) (text : List ℕ) : Type 0 where
  pub more : IsMore before after
  pub whole : after.failed ≡ before.failed
  pub bytes : Appends before.bytes after.bytes text

-- what a failure says of what was told meanwhile: a difference was printed, and output failed where a text could not be
abbrev pub Says : (before after : Told) → Failure → Type 0
Says before after failure.Printed = before.printed < after.printed
Says before after failure.Output = after.failed ≡ true
Says before after _ = Unit {0}

-- a text was printed meanwhile, or could not be
abbrev pub IsTold : (before after : Told) → Type 0
IsTold before after = (before.printed < after.printed) ⊎ (after.failed ≡ true)

-- a failure that has nothing to do with what is printed
abbrev pub IsSilent : Failure → Type 0
IsSilent e = (before after : Told) → Says before after e

-- a task that prints; where it is done, each of its texts was printed
abbrev pub Tells : {A : Type 0} → (before after : Told) → Result A Failure → Type 0
Tells before after (Ok a) = IsMore before after × (after.failed ≡ before.failed)
Tells before after (Err e) = IsMore before after × Says before after e

-- a cause that may come at any call: no memory, a file that could not be opened, read or written, a text that could not be printed
abbrev pub IsBrokenOff : Failure → Type 0
IsBrokenOff failure.Memory = Unit {0}
IsBrokenOff failure.File = Unit {0}
IsBrokenOff failure.Output = Unit {0}
IsBrokenOff _ = ⊥

-- a task that was broken off
abbrev pub BreaksOff : {A : Type 0} → Result A Failure → Type 0
BreaksOff (Ok a) = ⊥
BreaksOff (Err f) = IsBrokenOff f

-- A task comes to its answer and to the text that was printed, unless it was broken off
abbrev pub Answers : {A : Type 0} → (Result A Failure → List ℕ → Type 0) → (before after : Told) → Result A Failure → Type 0
Answers Comes before after answer = BreaksOff answer ⊎ ((text : List ℕ) × Comes answer text × Prints before after text)

-- no text was printed meanwhile; one may have been tried that could not be
abbrev pub PrintsNothing : (before after : Told) → Type 0
PrintsNothing before after = (after ≡ before) ⊎ ((after.printed ≡ before.printed) × (after.failed ≡ true))

-- a beginning of a text was printed, and then nothing, or what came then could not be
pub record PrintsPart (before after : Told) (whole : List ℕ) : Type 0 where
  pub text : List ℕ
  pub rest : List ℕ
  pub mid : Told
  pub parts : whole ≡ text ++ rest
  pub prints : Prints before mid text
  pub end : PrintsNothing mid after

-- a task that was broken off printed nothing, or a beginning of a text of which this is so
abbrev pub Begins : {A : Type 0} → (List ℕ → Type 0) → (before after : Told) → Result A Failure → Type 0
Begins Whole before after answer =
    BreaksOff answer → PrintsNothing before after ⊎ ((whole : List ℕ) × Whole whole × PrintsPart before after whole)

-- a text that a task can come to, with some answer
abbrev pub IsTextOf : {A : Type 0} → (Result A Failure → List ℕ → Type 0) → List ℕ → Type 0
IsTextOf {A} Comes text = (answer : Result A Failure) × Comes answer text

-- what a file holds, where that is known
abbrev pub IsHeld : Option (List ℕ) → List ℕ → Type 0
IsHeld held bytes = IfSome held (λ known. bytes ≡ known)
