-- Places of a batch.
use Rattle.std.specs.Prelude.{ℕ, ◌≤◌, ◌==◌, nat_lt, if◌then◌else◌, List}
use Rattle.std.specs.List.{flat_map, slice_get, count_by}
use Rattle.std.specs.Option.{option_to_list}
use Rattle.fab_types.specs.declared.envelope.Envelope.{Envelope}

-- the envelopes at these places of a batch, in this order
abbrev pub envelopes_at : List Envelope → List ℕ → List Envelope
envelopes_at batch order = flat_map (λ place. option_to_list (slice_get batch place)) order

-- each of these is a place of a batch of this length, and none stands twice
abbrev pub ArePlaces : ℕ → List ℕ → Type 0
ArePlaces count order = (place : ℕ) → count_by (λ other. other == place) order ≤ (if nat_lt place count then 1 else 0)
