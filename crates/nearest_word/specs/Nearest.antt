-- The word that was meant.
use Rattle.std.specs.Prelude.{◌≡◌, ◌++◌, ◌≤◌, ◌<◌, ◌/◌, ℕ, List, ◌∷◌, Option, Some, None, length, min}
use Rattle.std.specs.Borrow.{Bor}
use Rattle.std.specs.List.{All}
use Rattle.std.specs.Str.{chars}
use Rattle.strsim.specs.Edits.{osa_table}

-- how many edits lead from one text to another: a letter more, a letter less, another letter, or two neighbours swapped
-- (the distance of optimal string alignment)
abbrev pub edits : List ℕ → List ℕ → ℕ
edits from to = (osa_table (chars from) (chars to)).last_row (length (chars to))

-- how many may lead to the word that was meant
abbrev pub most_edits : List ℕ → ℕ
most_edits word = min 2 (length word / 2)

-- the first of those words to which the fewest edits lead, where so many or fewer do
abbrev pub IsNearest : (most : ℕ) → (word : List ℕ) → (words : List (Bor (List ℕ))) → Option (Bor (List ℕ)) → Type 0
IsNearest most word words None = All (λ w. most < edits word w.now) words
IsNearest most word words (Some nearest) =
    (front back : List (Bor (List ℕ))) × (words ≡ front ++ nearest ∷ back) × (edits word nearest.now ≤ most)
    × All (λ w. edits word nearest.now < edits word w.now) front
    × All (λ w. edits word nearest.now ≤ edits word w.now) back
