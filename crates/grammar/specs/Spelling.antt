-- Spellings: for a value, which texts (lists of bytes) spell it.
use Rattle.std.specs.Prelude.{◌≡◌, ℕ, ◌≤◌, List, [], ◌∷◌, ◌++◌, length}

-- one text, and then another
infixr 5 ◌⟫◌
abbrev pub ◌⟫◌ : (List ℕ → Type 0) → (List ℕ → Type 0) → List ℕ → Type 0
(P ⟫ Q) text = (front back : List ℕ) × P front × Q back × (text ≡ front ++ back)

-- no bytes
abbrev pub IsEmpty : List ℕ → Type 0
IsEmpty text = text ≡ []

-- that byte alone
abbrev pub IsByte : ℕ → List ℕ → Type 0
IsByte b text = text ≡ b ∷ []

-- those bytes
abbrev pub IsText : List ℕ → List ℕ → Type 0
IsText bytes text = text ≡ bytes

-- a value that is made of another, which is spelled
abbrev pub IsMade : {A B : Type 0} → (A → B) → (A → List ℕ → Type 0) → B → List ℕ → Type 0
IsMade {A} make Spells b text = (a : A) × (b ≡ make a) × Spells a text

-- the spellings of the values, one after another
abbrev pub Repeats : {A : Type 0} → (A → List ℕ → Type 0) → List A → List ℕ → Type 0
Repeats Spells [] = IsEmpty
Repeats Spells (x ∷ xs) = Spells x ⟫ Repeats Spells xs

-- a number that is at most so large
abbrev pub IsAtMost : ℕ → (ℕ → List ℕ → Type 0) → ℕ → List ℕ → Type 0
IsAtMost most IsNumber n text = (n ≤ most) × IsNumber n text

-- how many values there are, at most so many, and their spellings
abbrev pub IsCounted : {A : Type 0} → (ℕ → List ℕ → Type 0) → ℕ → (A → List ℕ → Type 0) → List A → List ℕ → Type 0
IsCounted IsCount most Spells xs = IsAtMost most IsCount (length xs) ⟫ Repeats Spells xs

-- how many bytes there are, and those bytes, of which P holds
abbrev pub IsMeasured : (ℕ → List ℕ → Type 0) → (List ℕ → Type 0) → List ℕ → Type 0
IsMeasured IsLength P text = (content : List ℕ) × P content × (IsLength (length content) ⟫ IsText content) text
