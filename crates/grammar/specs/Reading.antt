-- Reading functions: the value at the front of the bytes and the bytes after it, or nothing.
use Rattle.std.specs.Prelude.{ℕ, zero, suc, List, [], ◌∷◌, length, take, drop, Option, Some, None, option_and_then, nat_lt, nat_le, ◌==◌, if◌then◌else◌}

-- what was read, and then what is made of it
infixl 10 ◌>>=◌
abbrev pub ◌>>=◌ : {A B : Type 0} → Option A → (A → Option B) → Option B
o >>= f = option_and_then f o

-- one byte
abbrev pub byte_at : List ℕ → Option (ℕ × List ℕ)
byte_at [] = None
byte_at (b ∷ rest) = Some (b, rest)

-- the value made of what is read
abbrev pub made_at : {A B : Type 0} → (A → B) → (List ℕ → Option (A × List ℕ)) → List ℕ → Option (B × List ℕ)
made_at make read bytes = read bytes >>= λ a. Some (make a.0, a.1)

-- that byte, and then what is read
abbrev pub tagged_at : {A : Type 0} → ℕ → (List ℕ → Option (A × List ℕ)) → List ℕ → Option (A × List ℕ)
tagged_at b read bytes = byte_at bytes >>= λ tag. if tag.0 == b then read tag.1 else None

-- those bytes
abbrev pub text_at : List ℕ → List ℕ → Option (Unit {0} × List ℕ)
text_at [] bytes = Some (tt, bytes)
text_at (b ∷ text) bytes = tagged_at b (text_at text) bytes

-- so many values
unfoldable pub repeats_at : {A : Type 0} → (List ℕ → Option (A × List ℕ)) → ℕ → List ℕ → Option (List A × List ℕ)
repeats_at read zero bytes = Some ([], bytes)
repeats_at read (suc n) bytes = read bytes >>= λ x. (repeats_at read n x.1 >>= λ xs. Some (x.0 ∷ xs.0, xs.1))

-- a number that is at most so large
abbrev pub at_most : ℕ → (List ℕ → Option (ℕ × List ℕ)) → List ℕ → Option (ℕ × List ℕ)
at_most most read bytes = read bytes >>= λ n. if nat_le n.0 most then Some n else None

-- how many values there are, at most so many, and the values
unfoldable pub counted_at : {A : Type 0} → (List ℕ → Option (ℕ × List ℕ)) → ℕ → (List ℕ → Option (A × List ℕ)) → List ℕ → Option (List A × List ℕ)
counted_at count most read bytes = at_most most count bytes >>= λ n. repeats_at read n.0 n.1

-- a value that takes all of the bytes
abbrev pub whole_at : {A : Type 0} → (List ℕ → Option (A × List ℕ)) → List ℕ → Option A
whole_at read bytes = read bytes >>= λ x. if length x.1 == 0 then Some x.0 else None

-- what the first n bytes give
abbrev pub within_at : {A : Type 0} → (List ℕ → Option A) → ℕ → List ℕ → Option (A × List ℕ)
within_at content n bytes = if nat_lt (length bytes) n then None else (content (take n bytes) >>= λ x. Some (x, drop n bytes))

-- a length, and what that many bytes give
unfoldable pub measured_at : {A : Type 0} → (List ℕ → Option (ℕ × List ℕ)) → (List ℕ → Option A) → List ℕ → Option (A × List ℕ)
measured_at measure content bytes = measure bytes >>= λ n. within_at content n.0 n.1
