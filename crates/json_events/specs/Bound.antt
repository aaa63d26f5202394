-- What the names of a run stand for, alone and together.
use Rattle.std.specs.Prelude.{ℕ, List, [], ◌∷◌, length, Option, Some, None, nat_le, option_map, option_and_then, if◌then◌else◌}
use Rattle.std.specs.BTreeMap.{get_by_text}
use Rattle.fab_types.specs.declared.envelope.Endorsement.{Endorsement}
use Rattle.fab_types.specs.declared.envelope.Envelope.{Envelope}
use Rattle.fab_types.specs.Payloads.{Payload}
use Rattle.json_events.specs.declared.bindings.Bindings.{Bindings}
use Rattle.json_events.specs.declared.bindings.Endorsed.{Endorsed}

-- what a name stands for
abbrev pub bound_as : Bindings → List ℕ → Option Endorsed
bound_as bindings name = get_by_text bindings.by_name name

-- the payload that the first name stands for
abbrev pub payload_of : (List ℕ → Option Endorsed) → List (List ℕ) → Option Payload
payload_of bound [] = None
payload_of bound (name ∷ names) = option_map (λ (e : Endorsed). e.payload) (bound name)

-- the endorsements that the names stand for, in order; none where one stands for nothing
abbrev pub endorsements_of : (List ℕ → Option Endorsed) → List (List ℕ) → Option (List Endorsement)
endorsements_of bound [] = Some []
endorsements_of bound (name ∷ names) =
    option_and_then (λ (e : Endorsed). option_map (λ others. e.endorsement ∷ others) (endorsements_of bound names)) (bound name)

-- an envelope has up to 32 endorsements
abbrev pub envelope_of : Payload → List Endorsement → Option Envelope
envelope_of payload endorsements =
    if nat_le (length endorsements) 32 then Some (record { payload = payload; endorsements = endorsements }) else None

-- the envelope that the names stand for together
abbrev pub envelope_named : (List ℕ → Option Endorsed) → List (List ℕ) → Option Envelope
envelope_named bound names =
    option_and_then (λ payload. option_and_then (λ endorsements. envelope_of payload endorsements) (endorsements_of bound names)) (payload_of bound names)
