-- The lines of the standard input, each of which ends with a byte 10. What stands behind the last end may be a part of a line, and is none.
use Rattle.std.specs.Prelude.{◌≡◌, ◌≢◌, ◌==◌, ◌-◌, ◌++◌, ℕ, Bool, true, false, List, Option, Some, None, IfSome, All, length, slice_index}
use Rattle.std.specs.Io.KnownBytes.{Consumes}
use Rattle.std.specs.List.{flat_map, list_any}
use Rattle.cli_lines.specs.Texts.{line}
use Rattle.cli_lines.specs.Told.{IsHeld}

-- the line that was read last, the bytes behind it, where they are known, and those of them that were read with it
pub record Input : Type 0 where
  pub last : List ℕ
  pub left : Option (List ℕ)
  pub ahead : List ℕ

-- a further line was read with the last one
abbrev pub is_at_hand : Input → Bool
is_at_hand input = list_any (λ b. b == 10) input.ahead

-- no line ends in these bytes
abbrev pub HasNoEnd : List ℕ → Type 0
HasNoEnd bytes = All (λ b. b ≢ 10) bytes

-- whether a line is left, and which one is next
abbrev pub IsNext : Bool → Input → Input → Type 0
IsNext true old new = HasNoEnd new.last × Consumes old.left new.left (line new.last)
IsNext false old new = IfSome old.left HasNoEnd

-- the next line is taken, if it is at hand
abbrev pub IsTaken : Option (List ℕ) → Input → Input → Type 0
IsTaken (Some l) old new = HasNoEnd l × Consumes old.left new.left (line l)
IsTaken None old new = (is_at_hand old ≡ false) × (new ≡ old)

-- whether bytes end a line, whose end is taken off
abbrev pub IsEnded : Bool → List ℕ → List ℕ → Type 0
IsEnded true old new = old ≡ line new
IsEnded false old new = slice_index old (length old - 1) ≢ 10

-- known bytes begin with these lines, and lose them
abbrev pub TakesLines : Option (List ℕ) → Option (List ℕ) → List (List ℕ) → Type 0
TakesLines old new lines = All HasNoEnd lines × Consumes old new (flat_map line lines)

-- these are the first lines of an input, which holds these bytes where that is known
abbrev pub AreFirst : Option (List ℕ) → List (List ℕ) → Type 0
AreFirst held lines = All HasNoEnd lines × ((rest : List ℕ) × IsHeld held (flat_map line lines ++ rest))

-- these are all its lines
abbrev pub AreAll : Option (List ℕ) → List (List ℕ) → Type 0
AreAll held lines = All HasNoEnd lines × ((rest : List ℕ) × HasNoEnd rest × IsHeld held (flat_map line lines ++ rest))
