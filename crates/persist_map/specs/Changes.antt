-- How one page among others is changed.
use Rattle.std.specs.Prelude.{ℕ, ◌+◌, List, [], ◌∷◌, ◌++◌, take, drop}
use Rattle.std.specs.declared.result.Result.{Result}
use Rattle.std.specs.declared.result.Result.TheVariants.{Ok, Err}

-- how many entries stay before the entry of a key, and from which on they stay after it: by the place of its own
-- entry, or else by the place where it would stand
abbrev pub at_of : Result ℕ ℕ → ℕ
at_of (Ok at) = at
at_of (Err at) = at

abbrev pub next_of : Result ℕ ℕ → ℕ
next_of (Ok at) = at + 1
next_of (Err at) = at

module _ {X : Type 0} where
  -- a page with an entry at its place
  abbrev pub placed : List X → Result ℕ ℕ → X → List X
  placed p place e = take (at_of place) p ++ e ∷ drop (next_of place) p

  -- a page without the entry at a place
  abbrev pub cut : List X → ℕ → List X
  cut p at = take at p ++ drop (at + 1) p

  -- the pages that a page of 65 entries is split into
  abbrev pub halves : List X → List (List X)
  halves p = take 32 p ∷ drop 32 p ∷ []

  -- pages with others in place of the one at an index
  abbrev pub replaced : List (List X) → ℕ → List (List X) → List (List X)
  replaced ps i qs = take i ps ++ (qs ++ drop (i + 1) ps)
