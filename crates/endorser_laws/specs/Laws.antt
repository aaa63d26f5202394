-- When what is put on a payload is right.
use Rattle.std.specs.Prelude.{◌≡◌, Bool, false}
use Rattle.std.specs.Option.{option_map_or}
use Rattle.fab_types.specs.Payloads.{Payload}
use Rattle.ledger_model.specs.Views.{Plain}
use Rattle.policy_language.specs.GoodSets.{Name}
use Rattle.org_keys.specs.Signers.{Seeds, is_at_hand}
use Rattle.endorsement_policy.specs.Endorsed.{Listed, key_of, seal_of, is_right}
use Rattle.endorsement_policy.specs.Membership.{listed_in}

-- an organisation stands in a state, and the key that it has there is at hand
abbrev pub can_seal : Listed → Seeds → Plain → Name → Bool
can_seal listed seeds m org = option_map_or (is_at_hand seeds) (key_of (listed_in listed m).orgs org) false

-- in every state what an organisation puts on a payload is right there where it can seal, and nowhere else
abbrev pub SealedIsRight : Type 0
SealedIsRight =
    (listed : Listed) (seeds : Seeds) (m : Plain) (org : Name) (payload : Payload) →
    is_right (listed_in listed m).orgs payload (seal_of listed seeds m org payload) ≡ can_seal listed seeds m org
