-- Whether an organisation can endorse in a state.
use Rattle.std.specs.Prelude.{List, Option, Some, None, if◌then◌else◌}
use Rattle.endorsement_policy.specs.Endorsed.{Listed, key_of}
use Rattle.endorsement_policy.specs.Judge.{orgs_behind, plain_in}
use Rattle.endorsement_policy.specs.Membership.{listed_in}
use Rattle.ledger_model.specs.Chain.{Bytes, Chain, Version}
use Rattle.ledger_setting.specs.declared.genesis.Genesis.{Genesis}
use Rattle.org_keys.specs.Signers.{Seeds, is_at_hand}
use Rattle.org_keys.specs.declared.organisation.OrgKey.{OrgKey}
use Rattle.org_keys.specs.declared.organisation.Organisation.{Organisation}
use Rattle.peer_answers.specs.declared.place.Place.{Place}
use Rattle.peer_answers.specs.declared.place.Place.TheVariants.{Stranger, Keyless, Stands}

-- by the key with which it stands, if it does
abbrev pub place_of : Seeds → Option OrgKey → Place
place_of seeds None = Stranger
place_of seeds (Some key) = if is_at_hand seeds key then Stands else Keyless

-- among these organisations
abbrev pub place_among : Seeds → List Organisation → Bytes → Place
place_among seeds orgs org = place_of seeds (key_of orgs org)

-- the organisations that stand in a state with these entries
abbrev pub orgs_in : Listed → List (Bytes × (Bytes × Version)) → List Organisation
orgs_in r es = (listed_in r (plain_in es)).orgs

-- in the state after a chain
abbrev pub place_in : Genesis → Chain → Bytes → Place
place_in g chain org = place_among g.signers.value (orgs_behind g.rules.value chain) org
