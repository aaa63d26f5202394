-- Where the records of a store lie, by where each of them ends.
use Rattle.std.specs.Prelude.{ℕ, zero, suc, ◌+◌, ◌-◌, List, [], ◌∷◌, length, Option, Some, None, option_map, slice_get, slice_index}
use Rattle.fab_types.specs.Committed.{Committed}
use Rattle.block_store.specs.Record.{record_bytes}

abbrev pub or_zero : Option ℕ → ℕ
or_zero None = 0
or_zero (Some end) = end

-- where the last one ends, or 0
abbrev pub last_end : List ℕ → ℕ
last_end ends = or_zero (slice_get ends (length ends - 1))

-- where the record at a place begins
abbrev pub begin_at : List ℕ → ℕ → ℕ
begin_at ends zero = 0
begin_at ends (suc place) = slice_index ends place

-- where the record of a number begins and ends: numbers go from 1 on
abbrev pub span_at : List ℕ → ℕ → Option (ℕ × ℕ)
span_at ends zero = None
span_at ends (suc place) = option_map (λ end. (begin_at ends place, end)) (slice_get ends place)

-- where the records of these blocks end, of which the first begins here
abbrev pub ends_from : ℕ → List Committed → List ℕ
ends_from begin [] = []
ends_from begin (c ∷ cs) = let end = begin + length (record_bytes c) in end ∷ ends_from end cs

abbrev pub ends_of : List Committed → List ℕ
ends_of cs = ends_from 0 cs
