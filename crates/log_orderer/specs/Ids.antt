-- The ids of the transactions that envelopes carry.
use Rattle.std.specs.Prelude.{ℕ, List, map}
use Rattle.fab_types.specs.declared.envelope.Envelope.{Envelope}
use Rattle.wire.specs.Ids.{id_of}

abbrev pub ids_of : List Envelope → List (List ℕ)
ids_of envelopes = map (λ e. id_of e.payload.proposal) envelopes
