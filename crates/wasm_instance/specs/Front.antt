-- A memory of which only a front is laid out.
use Rattle.std.specs.Prelude.{ℕ, ◌-◌, List, ◌++◌, length, replicate}

-- the bytes that are laid out, and zeros behind them up to the size
abbrev pub padded : (size : ℕ) → List ℕ → List ℕ
padded size front = front ++ replicate (size - length front) 0
