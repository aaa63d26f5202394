-- Tables of bytes: each row has a byte and what it stands for.
use Rattle.std.specs.Prelude.{◌≡◌, ℕ, Bool, true, List, [], ◌∷◌, Option, Some, None, is_none, ◌⊎◌, ◌==◌, ◌&&◌, if◌then◌else◌}
use Rattle.grammar.specs.Spelling.{◌⟫◌, IsByte}
use Rattle.grammar.specs.Reading.{◌>>=◌, byte_at}

-- the table has this row
abbrev pub HasRow : {K : Type 0} → List (ℕ × K) → ℕ → K → Type 0
HasRow [] b k = ⊥
HasRow (r ∷ rows) b k = ((b ≡ r.0) × (k ≡ r.1)) ⊎ HasRow rows b k

-- the byte of a row that stands for the value
abbrev pub IsRowByte : {K : Type 0} → List (ℕ × K) → K → List ℕ → Type 0
IsRowByte rows k text = (b : ℕ) × HasRow rows b k × IsByte b text

-- the byte of a row, and then what its value says
abbrev pub IsByRow : {K A : Type 0} → List (ℕ × K) → (K → A → List ℕ → Type 0) → A → List ℕ → Type 0
IsByRow {K} rows IsAfter x text = (b : ℕ) × (k : K) × HasRow rows b k × (IsByte b ⟫ IsAfter k x) text

-- what a byte stands for
abbrev pub row_at : {K : Type 0} → List (ℕ × K) → ℕ → Option K
row_at [] b = None
row_at (r ∷ rows) b = if b == r.0 then Some r.1 else row_at rows b

-- no byte stands twice
abbrev pub is_unique : {K : Type 0} → List (ℕ × K) → Bool
is_unique [] = true
is_unique (r ∷ rows) = is_none (row_at rows r.0) && is_unique rows

-- a byte of the table
abbrev pub row_byte_at : {K : Type 0} → List (ℕ × K) → List ℕ → Option (K × List ℕ)
row_byte_at rows bytes = byte_at bytes >>= λ b. (row_at rows b.0 >>= λ k. Some (k, b.1))

-- a byte of the table, and then what its value says
abbrev pub by_row_at : {K A : Type 0} → List (ℕ × K) → (K → List ℕ → Option (A × List ℕ)) → List ℕ → Option (A × List ℕ)
by_row_at rows after bytes = row_byte_at rows bytes >>= λ k. after k.0 k.1
