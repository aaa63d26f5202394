-- A place in the text of a policy.
use Rattle.std.specs.Prelude.{ℕ, ◌-◌, List, length}

-- how many bytes the text has, and those that are still to be read
pub record Place : Type 0 where
  pub total : ℕ
  pub rest : List ℕ

abbrev pub beginning : List ℕ → Place
beginning text = record { total = length text; rest = text }

-- how many bytes stand before it
abbrev pub offset_of : Place → ℕ
offset_of place = place.total - length place.rest
