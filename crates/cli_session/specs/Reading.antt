-- The lines of a file, and how they are read.
use Rattle.std.specs.Prelude.{◌≡◌, ◌≢◌, ◌<◌, ◌+◌, ◌==◌, ℕ, List, [], ◌∷◌, ◌++◌, Option, Some, None, IfSome, if◌then◌else◌, get_or, length}
use Rattle.std.specs.Io.KnownBytes.{Keeps}
use Rattle.cli_session.specs.declared.reading.Piece.{Piece}
use Rattle.cli_session.specs.declared.reading.Piece.TheVariants.{More, Ended, NoneLeft}
use Rattle.cli_session.specs.declared.reading.Next.{Next}
use Rattle.cli_session.specs.declared.reading.Next.TheVariants.{Line, TooLong, End}

-- the same lines with these bytes at the front of the first
abbrev pub onto : List ℕ → List (List ℕ) → List (List ℕ)
onto [] lines = lines
onto (b ∷ bs) [] = (b ∷ bs) ∷ []
onto (b ∷ bs) (l ∷ ls) = ((b ∷ bs) ++ l) ∷ ls

-- The lines of a file, without their ends, which are bytes 10. What stands behind the last end is one too, if anything does
abbrev pub lines_in : List ℕ → List (List ℕ)
lines_in [] = []
lines_in (x ∷ xs) = if x == 10 then [] ∷ lines_in xs else onto (x ∷ []) (lines_in xs)

-- known bytes lose these lines at their front
abbrev pub TakesLines : Option (List ℕ) → Option (List ℕ) → List (List ℕ) → Type 0
TakesLines None new lines = Unit {0}
TakesLines (Some xs) None lines = ⊥
TakesLines (Some xs) (Some ys) lines = lines_in xs ≡ lines ++ lines_in ys

-- known bytes lose these at their front, of a line that has not ended
abbrev pub TakesPart : Option (List ℕ) → Option (List ℕ) → List ℕ → Type 0
TakesPart None new part = Unit {0}
TakesPart (Some xs) None part = ⊥
TakesPart (Some xs) (Some ys) part = lines_in xs ≡ onto part (lines_in ys)

-- known bytes have these lines at their front
abbrev pub HasFirst : Option (List ℕ) → List (List ℕ) → Type 0
HasFirst held lines = IfSome held (λ bytes. (others : List (List ℕ)) × (lines_in bytes ≡ lines ++ others))

-- how many bytes a line has at most, its end not counted
abbrev pub longest_line : ℕ
longest_line = 2097152

-- what is next in a file
abbrev pub IsNext : Next → Option (List ℕ) → Option (List ℕ) → Type 0
IsNext (Line line) old new = TakesLines old new (line.items ∷ [])
IsNext TooLong old new = (l : List ℕ) × (longest_line < length l) × HasFirst old (l ∷ [])
IsNext End old new = IfSome old (λ xs. lines_in xs ≡ [])

-- what a line has got, where known bytes were read
abbrev pub IsPiece : Piece → Option (List ℕ) → Option (List ℕ) → (before after : List ℕ) → Type 0
IsPiece More old new before after = (part : List ℕ) × (after ≡ before ++ part) × TakesPart old new part
IsPiece Ended old new before after = (part : List ℕ) × (after ≡ before ++ part) × TakesLines old new (part ∷ [])
IsPiece NoneLeft old new before after = (after ≡ before) × IfSome old (λ xs. xs ≡ []) × Keeps old new

-- no end of a line is among the first so many bytes
abbrev pub NoEnd : List ℕ → ℕ → Type 0
NoEnd bytes n = (k : ℕ) → k < n → get_or bytes k 0 ≢ 10

-- how bytes at hand are divided
abbrev pub IsCut : Piece → List ℕ → ℕ → ℕ → Type 0
IsCut More bytes text taken = NoEnd bytes text × (text ≡ length bytes) × (taken ≡ text)
IsCut Ended bytes text taken = NoEnd bytes text × (get_or bytes text 0 ≡ 10) × (text < length bytes) × (taken ≡ text + 1)
IsCut NoneLeft bytes text taken = (length bytes ≡ 0) × (text ≡ 0) × (taken ≡ 0)
