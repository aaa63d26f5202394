-- How the program ends.
use Rattle.std.specs.Prelude.{◌≡◌, ◌∷◌, ℕ, List, [], Result, Ok, Err, unwrap_or}
use Rattle.cli_lines.specs.Texts.{last_line}
use Rattle.cli_lines.specs.Told.{Told, Prints}
use Rattle.cli_lines.specs.declared.failure.Failure.{Failure}
use Rattle.cli_lines.specs.declared.failure.Failure.TheVariants as failure
use Rattle.cli_words.specs.UsageText.{usage_text}
use Rattle.cli_words.specs.Words.{IsTaskOf}
use Rattle.cli_words.specs.declared.task.Task.{Task}
use Rattle.cli_words.specs.declared.task.WordsFault.{WordsFault}
use Rattle.cli_words.specs.declared.task.WordsFault.TheVariants as words
use Rattle.ledger_cli.specs.Tasks.{KnownFiles, Comes}

-- the name of the command that words begin with
abbrev pub command_in : List (List ℕ) → List ℕ
command_in [] = []
command_in (command ∷ ws) = command

-- the last text of a failure: the usage of the command, or the line by which it is told, if it is not told yet
abbrev pub last_text : (command : List ℕ) → Failure → List ℕ
last_text command failure.Usage = usage_text command
last_text command f = unwrap_or (last_line f) []

abbrev pub PrintsLast : (command : List ℕ) → Failure → (before after : Told) → Type 0
PrintsLast command f before after = Prints before after (last_text command f)

-- what stands behind that which a task printed: the last text of its failure, if it failed
abbrev pub end_text : (command : List ℕ) → Result (Unit {0}) Failure → List ℕ
end_text command (Ok done) = []
end_text command (Err f) = last_text command f

abbrev pub PrintsEnd : (command : List ℕ) → Result (Unit {0}) Failure → (before after : Told) → Type 0
PrintsEnd command answer before after = Prints before after (end_text command answer)

-- 2 where the words name no task
abbrev pub failure_status : Failure → ℕ
failure_status failure.Usage = 2
failure_status f = 1

-- 0 where the task was done
abbrev pub status_of : Result (Unit {0}) Failure → ℕ
status_of (Ok done) = 0
status_of (Err f) = failure_status f

-- words name a task, which comes to an answer and to what is printed meanwhile; or they name none, and nothing is
abbrev pub ComesOf : List (List ℕ) → Result Task WordsFault → KnownFiles → (before after : Told) → Result (Unit {0}) Failure → Type 0
ComesOf ws (Ok task) k before after answer = IsTaskOf ws task × Comes task k before after answer
ComesOf ws (Err words.Memory) k before after answer = (answer ≡ Err failure.Memory) × (after ≡ before)
ComesOf ws (Err words.Usage) k before after answer = ((task : Task) → ¬ IsTaskOf ws task) × (answer ≡ Err failure.Usage) × (after ≡ before)

abbrev pub CarriesOut : List (List ℕ) → KnownFiles → (before after : Told) → Result (Unit {0}) Failure → Type 0
CarriesOut ws k before after answer = (task : Result Task WordsFault) × ComesOf ws task k before after answer

-- What the words ask for is carried out, its end is printed, and the status is that of its answer. Each text was printed
pub record Ends (ws : List (List ℕ)) (k : KnownFiles) (before after : Told) (status : ℕ) : Type 0 where
  pub answer : Result (Unit {0}) Failure
  pub mid : Told
  pub carries : CarriesOut ws k before mid answer
  pub end : PrintsEnd (command_in ws) answer mid after
  pub status_is : status ≡ status_of answer
  pub told : answer ≡ Err failure.Output → ⊥
