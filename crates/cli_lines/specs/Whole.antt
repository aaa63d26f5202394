-- Files that are written as a whole.
use Rattle.std.specs.Prelude.{◌≡◌, ◌++◌, ℕ, Bool, true, List, [], ◌∷◌, Option, Some, codes}
use Rattle.std.specs.Io.KnownBytes.{Appends}
use Rattle.cli_lines.specs.Places.{ChangesOnly, FilesHeld, IsFileOf, IsFree}
use Rattle.cli_lines.specs.declared.files.Target.{Target}

-- known bytes grow by a text of which this is so
abbrev pub AppendsSo : (List ℕ → Type 0) → (old new : Option (List ℕ)) → Type 0
AppendsSo Is old new = (text : List ℕ) × Is text × Appends old new text

-- this is so of a text, which is held, where it is known what is written
abbrev pub HoldsSo : (known : Bool) → (held : Option (List ℕ)) → (List ℕ → Type 0) → Type 0
HoldsSo known held Is = (text : List ℕ) × Is text × (known ≡ true → held ≡ Some text)

-- the same of a place: of each name that leads there
abbrev pub PlacesSo : (known : Bool) → (bytes : FilesHeld) → (place : Target) → (List ℕ → Type 0) → Type 0
PlacesSo known bytes place Is = (text : List ℕ) × Is text × ((name : List ℕ) → IsFileOf name place → known ≡ true → bytes name ≡ Some text)

-- the names of a file that is written as a whole: its own, and the one with `.part` behind it, by which it is written until it is whole
abbrev pub whole_names : List ℕ → List (List ℕ)
whole_names name = name ∷ (name ++ codes ".part") ∷ []

-- the file of this name holds what it held, where it is known what is written
abbrev pub Stays : (known : Bool) → (name : List ℕ) → (before after : FilesHeld) → Type 0
Stays known name before after = known ≡ true → after name ≡ before name

-- so it is of a place, by each name that leads there, if no file was where a new one is to be
abbrev pub StaysPlaced : (known : Bool) → (place : Target) → (before after : FilesHeld) → Type 0
StaysPlaced known place before after = (name : List ℕ) → IsFileOf name place → IsFree before place → Stays known name before after

-- of a place: by each name that leads there, no other files are changed
abbrev pub ChangesPlaced : (known : Bool) → (place : Target) → (before after : FilesHeld) → Type 0
ChangesPlaced known place before after = (name : List ℕ) → IsFileOf name place → ChangesOnly known (whole_names name) before after
