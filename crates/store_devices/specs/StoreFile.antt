-- What a file of a store holds.
use Rattle.std.specs.Prelude.{◌≡◌, ℕ, ◌+◌, ◌<◌, ◌≤◌, ◌⊎◌, List, length, take, drop, Option, Some, None, option_map, Result, Ok, Err}
use Rattle.std.specs.Io.KnownBytes.{Keeps}
use Rattle.store_devices.specs.History.{cut_back}

-- known bytes from a place on
abbrev pub from_place : ℕ → Option (List ℕ) → Option (List ℕ)
from_place place known = option_map (λ held. drop place held) known

-- so many bytes at the front of a buffer are those that stand at a place, none only at the end or where there is no room
abbrev pub Gives : Option (List ℕ) → (place n : ℕ) → (buffer : List ℕ) → Type 0
Gives None place n buffer = Unit {0}
Gives (Some held) place n buffer = (take n buffer ≡ take n (drop place held)) × (n ≡ 0 → 0 < length buffer → length held ≤ place)

-- a read from a place on, of which an error says nothing
abbrev pub ReadsFrom : {E : Type 0} → Option (List ℕ) → (place : ℕ) → Result ℕ E → (buffer : List ℕ) → Type 0
ReadsFrom known place (Ok n) buffer = Gives known place n buffer
ReadsFrom known place (Err e) buffer = Unit {0}

-- so many bytes are there, and the place behind them
pub record IsPiece (known : Option (List ℕ)) (place n behind : ℕ) (buffer : List ℕ) : Type 0 where
  pub fits : n ≤ length buffer
  pub gives : Gives known place n buffer
  pub on : behind ≡ place + n

-- known bytes lose so many at their end
abbrev pub CutsBack : ℕ → Option (List ℕ) → Option (List ℕ) → Type 0
CutsBack count None new = Unit {0}
CutsBack count (Some xs) None = ⊥
CutsBack count (Some xs) (Some ys) = ys ≡ cut_back count xs

-- behind an error they lost them, or are as they were
abbrev pub MayCutBack : ℕ → Option (List ℕ) → Option (List ℕ) → Type 0
MayCutBack count old new = Keeps old new ⊎ CutsBack count old new
