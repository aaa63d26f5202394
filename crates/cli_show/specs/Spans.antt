-- A part of a chain.
use Rattle.std.specs.Prelude.{ℕ, ◌-◌, List, take, drop}

-- those from one number to another, counted from 1, as far as there are any
abbrev pub within : {A : Type 0} → (from to : ℕ) → List A → List A
within from to xs = drop (from - 1) (take to xs)
