-- What files hold, and where that goes which is written under a name.
use Rattle.std.specs.Prelude.{◌≡◌, ◌≢◌, ℕ, Bool, true, false, List, [], Option, Some, None, string_bytes, unwrap_or}
use Rattle.std.specs.List.{AllByRecursion}
use Rattle.cli_lines.specs.declared.files.Target.{Target}
use Rattle.cli_lines.specs.declared.files.Target.TheVariants.{File, NewFile, Device}

-- what the file of each name holds, where that is known
abbrev pub FilesHeld : Type 0
FilesHeld = List ℕ → Option (List ℕ)

-- What an opened store holds: what the file of its name held, where that is known. Where it is known what is written, one that was not there is empty
abbrev pub opened_bytes : (known : Bool) → Option (List ℕ) → Option (List ℕ)
opened_bytes true held = Some (unwrap_or held [])
opened_bytes false held = held

-- where it is known what is written, each file but those of these names holds what it held
abbrev pub ChangesOnly : (known : Bool) → (names : List (List ℕ)) → (before after : FilesHeld) → Type 0
ChangesOnly known names before after = known ≡ true → (name : List ℕ) → AllByRecursion (λ n. name ≢ n) names → after name ≡ before name

-- to a file of this name
abbrev pub IsFileOf : List ℕ → Target → Type 0
IsFileOf name (File path) = string_bytes path ≡ name
IsFileOf name (NewFile path) = string_bytes path ≡ name
IsFileOf name (Device path) = ⊥

-- where a new file is to be, none has its name
abbrev pub IsFree : FilesHeld → Target → Type 0
IsFree held (File path) = Unit {0}
IsFree held (NewFile path) = held (string_bytes path) ≡ None
IsFree held (Device path) = Unit {0}
