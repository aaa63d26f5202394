-- What a reading function has to do with a spelling.
use Rattle.std.specs.Prelude.{◌≡◌, ℕ, List, ◌++◌, Option, Some}

-- Of the values of which Known holds, it reads each from its spelling, whatever follows; and it reads nothing else.
pub record ReadsIf {A : Type 0} (Known : A → Type 0) (Spells : A → List ℕ → Type 0) (read : List ℕ → Option (A × List ℕ)) : Type 0 where
  pub takes : (bytes : List ℕ) (x : A) (rest : List ℕ) → read bytes ≡ Some (x, rest) → Known x × (text : List ℕ) × Spells x text × (bytes ≡ text ++ rest)
  pub again : (x : A) (text rest : List ℕ) → Known x → Spells x text → read (text ++ rest) ≡ Some (x, rest)

abbrev pub Any : {A : Type 0} → A → Type 0
Any x = Unit {0}

abbrev pub Reads : {A : Type 0} → (A → List ℕ → Type 0) → (List ℕ → Option (A × List ℕ)) → Type 0
Reads Spells read = ReadsIf Any Spells read

-- Two values that beginnings of one list of bytes spell are the same, and so are the bytes after them.
abbrev pub SpellsOnce : {A : Type 0} → (A → List ℕ → Type 0) → Type 0
SpellsOnce {A} Spells = (a b : A) (front back rest more : List ℕ) → Spells a front → Spells b back → front ++ rest ≡ back ++ more → (a ≡ b) × (rest ≡ more)
