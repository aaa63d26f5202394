-- The limits of shared keys.
use Rattle.std.specs.Prelude.{ℕ, ◌≤◌, List, length}

-- a shared key has 1 to 128 bytes
abbrev pub IsTagKey : List ℕ → Type 0
IsTagKey bytes = (1 ≤ length bytes) × (length bytes ≤ 128)
