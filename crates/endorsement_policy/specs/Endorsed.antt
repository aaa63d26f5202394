-- Whose tags are right, and which envelopes are endorsed.
use Rattle.std.specs.Prelude.{◌≡◌, ℕ, List, [], ◌∷◌, Option, Some, None, Bool, true, false, not, ◌&&◌, ◌||◌, map, option_map, bytes_eq, slice_get}
use Rattle.std.specs.FinMap.{get}
use Rattle.std.specs.List.{find, filter, list_all, list_any}
use Rattle.std.specs.Result.{is_ok}
use Rattle.fab_types.specs.Namespaces.{is_in_namespace, namespace}
use Rattle.fab_types.specs.Order.{is_shown}
use Rattle.fab_types.specs.Memberships.{membership_key}
use Rattle.fab_types.specs.Proposals.{definition_key, own_key}
use Rattle.fab_types.specs.Touched.{is_older}
use Rattle.fab_types.specs.declared.edition.Edition.{Edition}
use Rattle.fab_types.specs.declared.items.ReadItem.{ReadItem}
use Rattle.fab_types.specs.declared.items.WriteItem.{WriteItem}
use Rattle.fab_types.specs.declared.proposal.Amend.{Amend}
use Rattle.fab_types.specs.declared.proposal.Call.{Call}
use Rattle.fab_types.specs.declared.proposal.Upgrade.{Upgrade}
use Rattle.fab_types.specs.declared.proposal.Proposal.{Proposal}
use Rattle.fab_types.specs.declared.proposal.Proposal.TheVariants as proposal
use Rattle.fab_types.specs.Payloads.{Payload}
use Rattle.fab_types.specs.declared.envelope.Endorsement.{Endorsement}
use Rattle.fab_types.specs.declared.envelope.Envelope.{Envelope}
use Rattle.fab_types.specs.declared.tag.Tag.{Tag}
use Rattle.org_keys.specs.Keys.{is_right_by}
use Rattle.org_keys.specs.Signers.{Seeds, tag_for}
use Rattle.org_keys.specs.declared.organisation.OrgKey.{OrgKey}
use Rattle.fab_types.specs.Spelling.{definition_bytes, membership_bytes, payload_bytes}
use Rattle.ledger_model.specs.Chain.{Version}
use Rattle.ledger_model.specs.Defined.{definition_in}
use Rattle.ledger_model.specs.Flags.{version_at}
use Rattle.ledger_model.specs.Views.{Plain, Versioned, values_of}
use Rattle.policy_language.specs.GoodSets.{Name, Names, is_satisfied}
pub use Rattle.endorsement_policy.specs.Installed.{org_names}
use Rattle.endorsement_policy.specs.Installed.{Installed, names_known, usable_by, usable_in}
pub use Rattle.endorsement_policy.specs.Listed.{Listed, is_org, is_policy_of, do_need_someone}
use Rattle.endorsement_policy.specs.Membership.{is_next, listed_in}
use Rattle.policy_language.specs.declared.policy.Policy.{Policy}
use Rattle.org_keys.specs.declared.organisation.Organisation.{Organisation}
use Rattle.endorsement_policy.specs.declared.rules.ChaincodePolicy.{ChaincodePolicy}

-- an organisation's key, if it is known
abbrev pub key_of : List Organisation → Name → Option OrgKey
key_of orgs name = option_map (λ o. o.key) (find (is_org name) orgs)

-- what an organisation puts on a payload in a state, by the seeds at hand and the key that it has there
abbrev pub seal_of : Listed → Seeds → Plain → Name → Payload → Endorsement
seal_of listed seeds m org p = record { org = org; tag = tag_for seeds (key_of (listed_in listed m).orgs org) (payload_bytes p) }

-- the organisation is known, and this is its tag on those bytes
abbrev pub is_tag_of : Option Organisation → List ℕ → Tag → Bool
is_tag_of None bytes claimed = false
is_tag_of (Some o) bytes claimed = is_right_by o.key bytes claimed

-- the organisation that it names is known, and the tag is that organisation's on this payload
abbrev pub is_right : List Organisation → Payload → Endorsement → Bool
is_right orgs p e = is_tag_of (find (is_org e.org) orgs) (payload_bytes p) e.tag

-- the organisations of which an envelope carries a right tag
abbrev pub right_orgs : List Organisation → Envelope → Names
right_orgs orgs e = map (λ x. x.org) (filter (is_right orgs e.payload) e.endorsements)

-- the policy is there, and those organisations satisfy it
abbrev pub is_met_by : Names → Option Policy → Bool
is_met_by names None = false
is_met_by names (Some policy) = is_satisfied policy names

-- the policy of a chaincode by the genesis
abbrev pub listed_policy : List ChaincodePolicy → Name → Option Policy
listed_policy ps name = option_map (λ p. p.policy) (find (is_policy_of name) ps)

-- the policy of the definition that these bytes are, where it can be used
abbrev pub defined_policy : Installed → List ℕ → Option Policy
defined_policy i bytes = option_map (λ u. u.policy) (usable_in i bytes)

-- the policy of a chaincode in a state
abbrev pub policy_in : Listed → Plain → Name → Option Policy
policy_in r m name = definition_in (listed_policy r.policies) (defined_policy r.installed) m name

-- the key that its proposal is about is read
abbrev pub reads_own : Payload → Bool
reads_own p = list_any (λ r. bytes_eq r.key (own_key p.proposal)) p.reads

-- each other key that is read is shown
abbrev pub reads_no_other : Payload → Bool
reads_no_other p = list_all (λ r. bytes_eq r.key (own_key p.proposal) || is_shown r.key) p.reads

-- each key that is written is shown
abbrev pub writes_shown : Payload → Bool
writes_shown p = list_all (λ w. is_shown w.key) p.writes

-- no key that is not shown is named but that one, and that one is not written
abbrev pub names_no_other : Payload → Bool
names_no_other p = reads_no_other p && writes_shown p

-- each key that is written, or deleted, is in the namespace of the chaincode
abbrev pub writes_own : Edition → (chaincode : Name) → Payload → Bool
writes_own edition chaincode p = list_all (λ w. is_in_namespace (namespace edition chaincode) w.key) p.writes

abbrev pub is_one_read : List ℕ → List ReadItem → Bool
is_one_read key [] = false
is_one_read key (r ∷ []) = bytes_eq r.key key
is_one_read key (r ∷ s ∷ rs) = false

abbrev pub is_value : List ℕ → Option (List ℕ) → Bool
is_value bytes None = false
is_value bytes (Some value) = bytes_eq value bytes

abbrev pub is_one_put : (key value : List ℕ) → List WriteItem → Bool
is_one_put key value [] = false
is_one_put key value (w ∷ []) = bytes_eq w.key key && is_value value w.value
is_one_put key value (w ∷ x ∷ ws) = false

abbrev pub is_none : {X : Type 0} → List X → Bool
is_none [] = true
is_none (x ∷ xs) = false

-- one key is read and no more, nothing is answered, and the value is put at that key
abbrev pub is_put_payload : (key value : List ℕ) → Payload → Bool
is_put_payload key value p = is_one_read key p.reads && is_none p.ranges && is_none p.result && is_one_put key value p.writes

-- an upgrade puts the new definition at its key
abbrev pub is_upgrade_payload : Upgrade → Payload → Bool
is_upgrade_payload u p = is_put_payload (definition_key u.chaincode) (definition_bytes u.definition) p

-- an amendment puts the new membership at its key
abbrev pub is_amend_payload : Amend → Payload → Bool
is_amend_payload a p = is_put_payload membership_key (membership_bytes a.membership) p

-- what was read is no newer than what stands: absent, or of a version that is no later
abbrev pub is_no_newer : (stands read : Option Version) → Bool
is_no_newer stands None = true
is_no_newer None (Some v) = false
is_no_newer (Some s) (Some v) = not (is_older s v)

-- so is each key that is read: of no version that the block itself gives, or a later one
abbrev pub reads_no_newer : Versioned → Payload → Bool
reads_no_newer m p = list_all (λ r. is_no_newer (version_at m r.key) r.version) p.reads

-- a call falls under the policy that its chaincode has in the state, whose definition it read; it writes in that chaincode's namespace alone
abbrev pub is_call_endorsed : Listed → Plain → Call → Envelope → Bool
is_call_endorsed r m c e =
    reads_own e.payload && names_no_other e.payload && writes_own r.edition c.chaincode e.payload
    && is_met_by (right_orgs r.orgs e) (policy_in r m c.chaincode)

-- an upgrade to a definition that can be used falls under the policy of upgrades, whatever the chaincode's own policy is; what it read is no
-- newer than the state
abbrev pub is_upgrade_endorsed : Listed → Versioned → Upgrade → Envelope → Bool
is_upgrade_endorsed r m u e =
    is_upgrade_payload u e.payload && reads_no_newer m e.payload && is_ok (usable_by r.installed u.definition)
    && names_known (org_names r.orgs) u.definition && is_satisfied r.upgrade (right_orgs r.orgs e)

-- an amendment to the next membership falls under the policy that stands, whatever the new one is; what it read is no newer than the state
abbrev pub is_amend_endorsed : Listed → Versioned → Amend → Envelope → Bool
is_amend_endorsed r m a e =
    is_amend_payload a e.payload && reads_no_newer m e.payload && is_next r.installed.orgs (get (values_of m) membership_key) a.membership
    && is_satisfied r.upgrade (right_orgs r.orgs e)

-- by the organisations and the policy of upgrades that are listed here
abbrev pub is_endorsed_as : Proposal → Listed → Versioned → Envelope → Bool
is_endorsed_as (proposal.Call c) r m e = is_call_endorsed r (values_of m) c e
is_endorsed_as (proposal.Upgrade u) r m e = is_upgrade_endorsed r m u e
is_endorsed_as (proposal.Amend a) r m e = is_amend_endorsed r m a e

-- in a state, the organisations of which the envelope carries a right tag suffice: by who stands there
abbrev pub is_endorsed : Listed → Versioned → Envelope → Bool
is_endorsed r m e = is_endorsed_as e.payload.proposal (listed_in r (values_of m)) m e

-- a right tag stands on the envelope
pub record CarriesRight (orgs : List Organisation) (e : Envelope) : Type 0 where
  pub place : ℕ
  pub endorsement : Endorsement
  pub stands : slice_get e.endorsements place ≡ Some endorsement
  pub right : is_right orgs e.payload endorsement ≡ true
