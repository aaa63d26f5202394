-- What is endorsed by who stands is right.
use Rattle.std.proofs.Common.{◌≡◌, ◌∙◌, Bool, true, false, Option, Some, None, Result, Ok, Err, if◌then◌else◌, refl, subst}
use Rattle.std.specs.Option.{option_map_or}
use Rattle.fab_types.specs.Payloads.{Payload}
use Rattle.fab_types.specs.declared.envelope.Endorsement.{Endorsement}
use Rattle.fab_types.specs.declared.proposal.Proposal.{Proposal}
use Rattle.endorsement_policy.specs.Endorsed.{is_right, key_of, seal_of}
use Rattle.endorsement_policy.specs.Judge.{orgs_behind, plain_after}
use Rattle.endorser.specs.Endorsing.{endorsed_on, sealed_by, simulated_on}
use Rattle.endorser_laws.specs.Laws.{SealedIsRight}
use Rattle.ledger_model.specs.Chain.{Bytes, Chain}
use Rattle.ledger_setting.specs.declared.genesis.Genesis.{Genesis}
use Rattle.org_keys.specs.Signers.{Seeds, is_at_hand}
use Rattle.org_keys.specs.declared.organisation.OrgKey.{OrgKey}
use Rattle.simulator.specs.declared.refusal.SimRefusal.{SimRefusal}
use Rattle.peer_answers.specs.Calls.{endorses_by}
use Rattle.peer_answers.specs.Placing.{place_in, place_of}
use Rattle.peer_answers.specs.declared.place.Place.TheVariants.{Keyless, Stands}

stands_by : (b : Bool) → (if b then Stands else Keyless) ≡ Stands → b ≡ true
stands_by true is = refl
stands_by false is = absurd cc

can_seal_by : (seeds : Seeds) (k : Option OrgKey) → place_of seeds k ≡ Stands → option_map_or (is_at_hand seeds) k false ≡ true
can_seal_by seeds None is = absurd cc
can_seal_by seeds (Some key) is = stands_by (is_at_hand seeds key) is

right_by : (law : SealedIsRight) (g : Genesis) (org : Bytes) (chain : Chain) (s : Result Payload SimRefusal) (e : Payload × Endorsement) →
    place_in g chain org ≡ Stands → sealed_by (seal_of g.rules.value g.signers.value (plain_after chain) org) s ≡ Ok e →
    is_right (orgs_behind g.rules.value chain) e.0 e.1 ≡ true
right_by law g org chain (Err refusal) e stands is = absurd cc
right_by law g org chain (Ok payload) e stands is =
    let seal = seal_of g.rules.value g.signers.value (plain_after chain) org payload in
    let same : (payload, seal) ≡ e = cc in
    subst (λ (x : Payload × Endorsement). is_right (orgs_behind g.rules.value chain) x.0 x.1 ≡ true) same
    (law g.rules.value g.signers.value (plain_after chain) org payload
    ∙ can_seal_by g.signers.value (key_of (orgs_behind g.rules.value chain) org) stands)

pub endorsed_right : (law : SealedIsRight) (g : Genesis) (org : Bytes) (chain : Chain) (p : Proposal) (e : Payload × Endorsement) →
    place_in g chain org ≡ Stands → endorsed_on (endorses_by g org) p chain ≡ Ok e → is_right (orgs_behind g.rules.value chain) e.0 e.1 ≡ true
endorsed_right law g org chain p e stands is = right_by law g org chain (simulated_on (endorses_by g org) p chain) e stands is
