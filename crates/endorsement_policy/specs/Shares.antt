-- Answers that several workers gave.
use Rattle.std.specs.Prelude.{◌≡◌, ℕ, ◌+◌, ◌*◌, ◌<◌, Bool, false, List, length, slice_index_or}

-- a worker's share: what stands at its number, and at each place that lies a multiple of the number of workers after that
abbrev pub IsShare : List Bool → (worker workers : ℕ) → List Bool → Type 0
IsShare all worker workers share =
    (turn : ℕ) → worker + workers * turn < length all →
    (turn < length share) × (slice_index_or share turn false ≡ slice_index_or all (worker + workers * turn) false)
