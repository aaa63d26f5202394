-- Which bytes spell which number and which name (WebAssembly Core 1.0, sections 5.2.2 and 5.2.4).
use Rattle.std.specs.Prelude.{◌≡◌, ℕ, ◌+◌, ◌-◌, ◌*◌, ◌/◌, ◌^◌, ◌<◌, ◌≤◌, ◌⊎◌, ℤ, pos, negsuc, ◌+ℤ◌, ◌*ℤ◌, IsTrue, List, [], ◌∷◌, length}
use Rattle.std.specs.Str.{is_utf8}
use Rattle.grammar.specs.Spelling.{◌⟫◌, IsText, IsCounted, IsMeasured}

-- An unsigned number below a bound, which is 2 ^ N for N bits. The last byte is below 128 and below the bound.
-- A byte from 128 on has the low seven bits, and the bytes after it spell the rest, below a bound of seven bits less.
abbrev pub IsUnsigned : ℕ → List ℕ → ℕ → Type 0
IsUnsigned bound [] n = ⊥
IsUnsigned bound (b ∷ []) n = (b < 128) × (b < bound) × (n ≡ b)
IsUnsigned bound (b ∷ c ∷ bs) n = (128 ≤ b) × (128 < bound) × (high : ℕ) × (n ≡ (b - 128) + 128 * high) × IsUnsigned (bound / 128) (c ∷ bs) high

-- A signed number from -half to half - 1, where half is 2 ^ (N - 1) for N bits. A last byte below 64 stands for itself, and one from 64 on for itself less 128.
abbrev pub IsSigned : ℕ → List ℕ → ℤ → Type 0
IsSigned half [] z = ⊥
IsSigned half (b ∷ []) z = ((b < 64) × (b < half) × (z ≡ pos b)) ⊎ ((64 ≤ b) × (b < 128) × (128 ≤ b + half) × (z ≡ negsuc (127 - b)))
IsSigned half (b ∷ c ∷ bs) z = (128 ≤ b) × (64 < half) × (high : ℤ) × (z ≡ pos (b - 128) +ℤ pos 128 *ℤ high) × IsSigned (half / 128) (c ∷ bs) high

abbrev pub IsU32 : ℕ → List ℕ → Type 0
IsU32 n text = IsUnsigned (2 ^ 32) text n

abbrev pub IsS32 : ℤ → List ℕ → Type 0
IsS32 z text = IsSigned (2 ^ 31) text z

abbrev pub IsS64 : ℤ → List ℕ → Type 0
IsS64 z text = IsSigned (2 ^ 63) text z

-- a name: its length in bytes, and that many bytes of UTF-8
abbrev pub IsName : List ℕ → List ℕ → Type 0
IsName name text = IsTrue (is_utf8 name) × (IsU32 (length name) ⟫ IsText name) text

-- a vector (5.1.3): how many values there are, at most so many, and their spellings
abbrev pub IsList : {A : Type 0} → ℕ → (A → List ℕ → Type 0) → List A → List ℕ → Type 0
IsList most Spells = IsCounted IsU32 most Spells

-- what has its length in bytes in front
abbrev pub IsSized : (List ℕ → Type 0) → List ℕ → Type 0
IsSized P = IsMeasured IsU32 P
