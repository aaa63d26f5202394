-- What an endorsed upgrade or amendment meets, part by part, and what its payload reads and writes.
use Rattle.std.proofs.Common.{◌≡◌, true, ◌&&◌, List, [], ◌∷◌, Option, Some, None, bytes_eq, refl, ap}
use Rattle.std.specs.FinMap.{get}
use Rattle.std.specs.Result.{is_ok}
use Rattle.std.proofs.lemmas.Bool.{and_parts}
use Rattle.std.proofs.lemmas.Slice.Eq.{bytes_eq-Decides}
use Rattle.fab_types.specs.Memberships.{membership_key}
use Rattle.fab_types.specs.Payloads.{Payload}
use Rattle.fab_types.specs.declared.envelope.Envelope.{Envelope}
use Rattle.fab_types.specs.declared.items.ReadItem.{ReadItem}
use Rattle.fab_types.specs.declared.items.WriteItem.{WriteItem}
use Rattle.fab_types.specs.declared.proposal.Amend.{Amend}
use Rattle.fab_types.specs.declared.proposal.Upgrade.{Upgrade}
use Rattle.ledger_model.specs.Chain.{Bytes}
use Rattle.ledger_model.specs.Views.{Versioned, values_of}
use Rattle.policy_language.specs.GoodSets.{is_satisfied}
use Rattle.endorsement_policy.specs.Endorsed.{Listed, is_amend_endorsed, is_amend_payload, is_none, is_one_put, is_one_read, is_put_payload}
use Rattle.endorsement_policy.specs.Endorsed.{is_upgrade_endorsed, is_upgrade_payload, is_value, org_names, reads_no_newer, right_orgs}
use Rattle.endorsement_policy.specs.Installed.{names_known, usable_by}
use Rattle.endorsement_policy.specs.Membership.{is_next}

pub record IsUpgradeMet (r : Listed) (m : Versioned) (u : Upgrade) (e : Envelope) : Type 0 where
  pub payload : is_upgrade_payload u e.payload ≡ true
  pub older : reads_no_newer m e.payload ≡ true
  pub usable : is_ok (usable_by r.installed u.definition) ≡ true
  pub known : names_known (org_names r.orgs) u.definition ≡ true
  pub agreed : is_satisfied r.upgrade (right_orgs r.orgs e) ≡ true

pub upgrade_met : (r : Listed) (m : Versioned) (u : Upgrade) (e : Envelope) → is_upgrade_endorsed r m u e ≡ true → IsUpgradeMet r m u e
upgrade_met r m u e met =
    let pays = is_upgrade_payload u e.payload in
    let old = reads_no_newer m e.payload in
    let can = is_ok (usable_by r.installed u.definition) in
    let names = names_known (org_names r.orgs) u.definition in
    let agreed = and_parts (pays && old && can && names) (is_satisfied r.upgrade (right_orgs r.orgs e)) met in
    let known = and_parts (pays && old && can) names agreed.0 in
    let usable = and_parts (pays && old) can known.0 in
    let first = and_parts pays old usable.0 in
    record { payload = first.0; older = first.1; usable = usable.1; known = known.1; agreed = agreed.1 }

pub record IsAmendMet (r : Listed) (m : Versioned) (a : Amend) (e : Envelope) : Type 0 where
  pub payload : is_amend_payload a e.payload ≡ true
  pub older : reads_no_newer m e.payload ≡ true
  pub next : is_next r.installed.orgs (get (values_of m) membership_key) a.membership ≡ true
  pub agreed : is_satisfied r.upgrade (right_orgs r.orgs e) ≡ true

pub amend_met : (r : Listed) (m : Versioned) (a : Amend) (e : Envelope) → is_amend_endorsed r m a e ≡ true → IsAmendMet r m a e
amend_met r m a e met =
    let pays = is_amend_payload a e.payload in
    let old = reads_no_newer m e.payload in
    let follows = is_next r.installed.orgs (get (values_of m) membership_key) a.membership in
    let agreed = and_parts (pays && old && follows) (is_satisfied r.upgrade (right_orgs r.orgs e)) met in
    let next = and_parts (pays && old) follows agreed.0 in
    let first = and_parts pays old next.0 in
    record { payload = first.0; older = first.1; next = next.1; agreed = agreed.1 }

-- ---- what the payload reads and writes

value_there : (bytes : Bytes) (o : Option Bytes) → is_value bytes o ≡ true → o ≡ Some bytes
value_there bytes None e = absurd cc
value_there bytes (Some value) e = ap Some ((bytes_eq-Decides value bytes).0 e)

-- one item, of this key
pub record IsOneRead (key : Bytes) (rs : List ReadItem) : Type 0 where
  pub item : ReadItem
  pub only : rs ≡ item ∷ []
  pub key_is : item.key ≡ key

one_read : (key : Bytes) (rs : List ReadItem) → is_one_read key rs ≡ true → IsOneRead key rs
one_read key [] e = absurd cc
one_read key (r ∷ []) e = record { item = r; only = refl; key_is = (bytes_eq-Decides r.key key).0 e }
one_read key (r ∷ s ∷ rs) e = absurd cc

pub record IsOnePut (key value : Bytes) (ws : List WriteItem) : Type 0 where
  pub item : WriteItem
  pub only : ws ≡ item ∷ []
  pub key_is : item.key ≡ key
  pub value_is : item.value ≡ Some value

one_put : (key value : Bytes) (ws : List WriteItem) → is_one_put key value ws ≡ true → IsOnePut key value ws
one_put key value [] e = absurd cc
one_put key value (w ∷ []) e =
    let parts = and_parts (bytes_eq w.key key) (is_value value w.value) e in
    record { item = w; only = refl; key_is = (bytes_eq-Decides w.key key).0 parts.0; value_is = value_there value w.value parts.1 }
one_put key value (w ∷ x ∷ ws) e = absurd cc

-- a payload that puts a value at a key reads this key, and writes it, and no more
pub record IsPut (key value : Bytes) (p : Payload) : Type 0 where
  pub read : IsOneRead key p.reads
  pub put : IsOnePut key value p.writes

pub paid : (key value : Bytes) (p : Payload) → is_put_payload key value p ≡ true → IsPut key value p
paid key value p e =
    let put = and_parts (is_one_read key p.reads && is_none p.ranges && is_none p.result) (is_one_put key value p.writes) e in
    let result = and_parts (is_one_read key p.reads && is_none p.ranges) (is_none p.result) put.0 in
    let ranges = and_parts (is_one_read key p.reads) (is_none p.ranges) result.0 in
    record { read = one_read key p.reads ranges.0; put = one_put key value p.writes put.1 }
