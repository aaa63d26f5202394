-- What a key file spells.
use Rattle.std.specs.Prelude.{◌≡◌, ◌≤◌, ◌++◌, ℕ, List, [], ◌∷◌, length, Ok}
use Rattle.hex.specs.Hex.{decode_of}

-- a seed of 32 bytes in hex, its line's end, and what is behind it
abbrev pub BeginsWith : (bytes seed rest : List ℕ) → Type 0
BeginsWith bytes seed rest =
    (digits : List ℕ) × (bytes ≡ digits ++ 10 ∷ rest) × (decode_of digits ≡ Ok seed) × (length seed ≡ 32)

-- each seed in a line of its own, and nothing else
abbrev pub AreSeeds : List ℕ → List (List ℕ) → Type 0
AreSeeds bytes [] = bytes ≡ []
AreSeeds bytes (seed ∷ seeds) = (rest : List ℕ) × BeginsWith bytes seed rest × AreSeeds rest seeds

-- 1 to 16 of them
abbrev pub IsKeyFile : List ℕ → List (List ℕ) → Type 0
IsKeyFile bytes seeds = AreSeeds bytes seeds × (1 ≤ length seeds) × (length seeds ≤ 16)
