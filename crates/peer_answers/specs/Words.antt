-- The words of a line.
use Rattle.std.specs.Prelude.{ℕ, Bool, List, length, Option, Some, None, ◌==◌, nat_lt, if◌then◌else◌, bytes_eq}
use Rattle.std.specs.List.{position_or_len, before_first, after_first}

-- the byte of the space
abbrev pub is_space : ℕ → Bool
is_space byte = byte == 32

-- what stands before the first space of a text, and what behind it; None where it has no space
abbrev pub split_at_space : List ℕ → Option (List ℕ × List ℕ)
split_at_space text =
    if nat_lt (position_or_len is_space text) (length text) then Some (before_first is_space text, after_first is_space text) else None

-- what stands behind the first word and a space, where the first word is this one
abbrev pub behind_this : List ℕ → Option (List ℕ × List ℕ) → Option (List ℕ)
behind_this word None = None
behind_this word (Some p) = if bytes_eq p.0 word then Some p.1 else None

abbrev pub behind : List ℕ → List ℕ → Option (List ℕ)
behind word text = behind_this word (split_at_space text)
