-- Where a cursor stands: all the bytes, the offset at which its own end, and those that are left.
use Rattle.std.specs.Prelude.{◌≡◌, ℕ, ◌+◌, ◌-◌, List, ◌++◌, length}

pub record Place : Type 0 where
  pub whole : List ℕ
  pub end : ℕ
  pub rest : List ℕ

abbrev pub offset_of : Place → ℕ
offset_of place = place.end - length place.rest

-- the bytes that are left stand in the whole, and end at the end
pub record IsPlace (whole : List ℕ) (end : ℕ) (rest : List ℕ) : Type 0 where
  pub before : List ℕ
  pub after : List ℕ
  pub parts : whole ≡ before ++ (rest ++ after)
  pub offset : end ≡ length before + length rest
