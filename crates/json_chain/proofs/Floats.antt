-- The lines have no floats, so each is exactly the compact text of its data.
use Rattle.std.proofs.Common.{◌≡◌, ℕ, false, List, [], ◌∷◌, Option, Some, None, Result, Ok, Err, IfOk, String, Global, map, codes, string_bytes, refl}
use Rattle.std.specs.Prelude.{option_and_then}
use Rattle.std.proofs.Common.{ap, ◌∙◌}
use Rattle.fab_types.specs.Version.{Version}
use Rattle.fab_types.specs.Sets.{Range}
use Rattle.fab_types.specs.Committed.{Committed}
use Rattle.fab_types.specs.declared.items.ReadItem.{ReadItem}
use Rattle.fab_types.specs.declared.items.WriteItem.{WriteItem}
use Rattle.fab_types.specs.declared.edition.Edition.{Edition}
use Rattle.fab_types.specs.declared.edition.Edition.TheVariants.{First, Second}
use Rattle.fab_types.specs.declared.envelope.Envelope.{Envelope}
use Rattle.fab_types.specs.declared.membership.Member.{Member}
use Rattle.fab_types.specs.declared.membership.MemberKey.{MemberKey}
use Rattle.fab_types.specs.declared.membership.MemberKey.TheVariants.{Kept, Public}
use Rattle.fab_types.specs.declared.membership.Membership.{Membership}
use Rattle.fab_types.specs.declared.flag.Flag.{Flag}
use Rattle.fab_types.specs.declared.proposal.Proposal.{Proposal}
use Rattle.fab_types.specs.declared.proposal.Proposal.TheVariants as proposal
use Rattle.policy_language.specs.declared.policy.Policy.{Policy}
use Rattle.endorsement_policy.specs.declared.installed.ModuleId.{ModuleId}
use Rattle.org_keys.specs.Keys.{point_of}
use Rattle.org_keys.specs.declared.organisation.Organisation.{Organisation}
use Rattle.endorsement_policy.specs.declared.rules.ChaincodePolicy.{ChaincodePolicy}
use Rattle.endorsement_policy.specs.Endorsed.{Listed, key_of, listed_policy, org_names}
use Rattle.chaincode_book.specs.declared.book.Chaincode.{Chaincode}
use Rattle.ledger_setting.specs.declared.genesis.Genesis.{Genesis}
use Rattle.serde_json.specs.Data.{Data, string, object, member, no_members}
use Rattle.serde_json.specs.Read.{read}
use Rattle.serde_json.specs.View.{items_of}
use Rattle.serde_json.specs.Written.{compact_text, has_float, items_have_float}
use Rattle.fab_types.specs.Spelling.{payload_bytes}
use Rattle.json_chain.specs.Texts.{pairs_json, value_json}
use Rattle.json_chain.specs.Memberships.{kept_json, member_json, membership_json, standing_json, with_key}
use Rattle.json_chain.specs.Sets.{range_entry_json, range_json, read_json, seen_json, write_item_json}
use Rattle.fab_types.specs.Payloads.{Payload}
use Rattle.ledger_model.specs.Chain.{Placed}
use Rattle.json_chain.specs.Transactions.{endorsement_json, endorsements_json, payload_json, placed_transaction_json, proposal_json}
use Rattle.json_chain.specs.Transactions.{transaction_json, with_place}
use Rattle.json_chain.specs.Transactions.{with_proposal, with_rest}
use Rattle.json_chain.specs.Blocks.{block_json}
use Rattle.json_chain.specs.Genesis.{chaincode_json, module_json, named_json, org_json, policy_json, genesis_json, genesis_members, with_rules}
use Rattle.json_chain.specs.Entries.{placed_write_json}
use Rattle.json_chain.specs.JsonText.{IsJsonText}

-- the line of a value that is these data is their text
pub text_of : {E : Type 0} (r : Result (String Global) E) (v d : Data) → v ≡ d → has_float d ≡ false →
    IfOk r (λ s. has_float v ≡ false → string_bytes s ≡ compact_text v) → IfOk r (λ s. read (string_bytes s) ≡ Some v) →
    IfOk r (λ s. IsJsonText d (string_bytes s))
text_of (Ok s) v d is plain exact back =
    record { exact = exact (ap has_float is ∙ plain) ∙ ap compact_text is; read = back ∙ ap Some is }
text_of (Err e) v d is plain exact back = tt

pub items_plain : {A : Type 0} (json : A → Data) → ((x : A) → has_float (json x) ≡ false) → (xs : List A) →
    items_have_float (items_of (map json xs)) ≡ false
items_plain json plain [] = refl
items_plain json plain (x ∷ xs) = rw (plain x, items_plain json plain xs) refl

pairs_plain : {A B : Type 0} (json : A → B → Data) → ((x : A) (y : B) → has_float (json x y) ≡ false) → (xs : List A) (ys : List B) →
    items_have_float (items_of (pairs_json json xs ys)) ≡ false
pairs_plain json plain [] ys = refl
pairs_plain json plain (x ∷ xs) [] = refl
pairs_plain json plain (x ∷ xs) (y ∷ ys) = rw (plain x y, pairs_plain json plain xs ys) refl

value_plain : (value : Option (List ℕ)) → has_float (value_json value) ≡ false
value_plain None = refl
value_plain (Some value) = refl

seen_plain : (version : Option Version) → has_float (seen_json version) ≡ false
seen_plain None = refl
seen_plain (Some version) = refl

read_plain : (r : ReadItem) → has_float (read_json r) ≡ false
read_plain r = rw (seen_plain r.version) refl

write_plain : (w : WriteItem) → has_float (write_item_json w) ≡ false
write_plain w = rw (value_plain w.value) refl

range_plain : (r : Range) → has_float (range_json r) ≡ false
range_plain r = rw (items_plain range_entry_json (λ e. refl) r.entries) refl

key_plain : (name : List ℕ) (k : MemberKey) → has_float (object (with_key k (member (codes "name") (string name) no_members))) ≡ false
key_plain name Kept = refl
key_plain name (Public k) = refl

member_plain : (m : Member) → has_float (member_json m) ≡ false
member_plain m = key_plain m.name m.key

membership_plain : (s : Membership) → has_float (membership_json s) ≡ false
membership_plain s = rw (items_plain member_json member_plain s.members) refl

pub standing_plain : (r : Listed) (s : Option Membership) → has_float (standing_json r s) ≡ false
standing_plain r None = rw (items_plain kept_json (λ o. refl) r.orgs) refl
standing_plain r (Some s) = membership_plain s

proposal_plain : (p : Proposal) (flag : Flag) (a b c d e f : Data) → has_float a ≡ false → has_float b ≡ false → has_float c ≡ false → has_float d ≡ false →
    has_float e ≡ false → has_float f ≡ false → has_float (proposal_json p flag a b c d e f) ≡ false
proposal_plain (proposal.Call x) flag a b c d e f ha hb hc hd he hf = rw (ha, hb, hc, hd, he, hf) refl
proposal_plain (proposal.Upgrade u) flag a b c d e f ha hb hc hd he hf = rw (ha, hb, hc, hd, he, hf) refl
proposal_plain (proposal.Amend x) flag a b c d e f ha hb hc hd he hf =
    rw (items_plain member_json member_plain x.membership.members, ha, hb, hc, hd, he, hf) refl

endorsements_plain : (orgs : List Organisation) (e : Envelope) → has_float (endorsements_json orgs e) ≡ false
endorsements_plain orgs e = items_plain (endorsement_json orgs (payload_bytes e.payload)) (λ x. refl) e.endorsements

transaction_plain : (orgs : List Organisation) (e : Envelope) (flag : Flag) → has_float (transaction_json orgs e flag) ≡ false
transaction_plain orgs e flag =
    let p = e.payload in
    proposal_plain p.proposal flag _ _ _ _ _ _ (endorsements_plain orgs e) refl (items_plain range_json range_plain p.ranges)
    (items_plain read_json read_plain p.reads) refl (items_plain write_item_json write_plain p.writes)

pub block_plain : (orgs : List Organisation) (c : Committed) → has_float (block_json orgs c) ≡ false
block_plain orgs c = rw (pairs_plain (transaction_json orgs) (transaction_plain orgs) c.block.envelopes c.flags) refl

policy_plain : (p : Option Policy) → has_float (policy_json p) ≡ false
policy_plain None = refl
policy_plain (Some p) = refl

chaincode_plain : (policies : List ChaincodePolicy) (c : Chaincode) (id : ModuleId) → has_float (chaincode_json policies c id) ≡ false
chaincode_plain policies c id = rw (policy_plain (listed_policy policies c.name)) refl

named_plain : (name : List ℕ) (k : Option (List ℕ)) → has_float (named_json name k) ≡ false
named_plain name None = refl
named_plain name (Some k) = refl

-- under these rules
genesis_plain_by : (edition : Edition) (g : Genesis) → has_float (object (with_rules edition g.rules.value.ledger (genesis_members g))) ≡ false
genesis_plain_by First g =
    let book = g.book.value in
    let rules = g.rules.value in
    rw (
      pairs_plain (chaincode_json rules.policies) (chaincode_plain rules.policies) book.chaincodes book.installed.modules,
      items_plain module_json (λ id. refl) book.installed.modules,
      items_plain (org_json rules.orgs) (λ name. named_plain name (option_and_then point_of (key_of rules.orgs name))) (org_names book.installed.orgs),
      items_plain string (λ s. refl) g.peers.items,
    ) refl
genesis_plain_by Second g =
    let book = g.book.value in
    let rules = g.rules.value in
    rw (
      pairs_plain (chaincode_json rules.policies) (chaincode_plain rules.policies) book.chaincodes book.installed.modules,
      items_plain module_json (λ id. refl) book.installed.modules,
      items_plain (org_json rules.orgs) (λ name. named_plain name (option_and_then point_of (key_of rules.orgs name))) (org_names book.installed.orgs),
      items_plain string (λ s. refl) g.peers.items,
    ) refl

pub genesis_plain : (g : Genesis) → has_float (genesis_json g) ≡ false
genesis_plain g = genesis_plain_by g.rules.value.edition g

pub placed_write_plain : (id : List ℕ) (block place : ℕ) (key : List ℕ) (value : Option (List ℕ)) →
    has_float (placed_write_json id block place key value) ≡ false
placed_write_plain id block place key value = rw (value_plain value) refl

pub payload_plain : (p : Payload) → has_float (payload_json p) ≡ false
payload_plain p =
    rw (items_plain range_json range_plain p.ranges, items_plain read_json read_plain p.reads, items_plain write_item_json write_plain p.writes) refl

-- a transaction with its place, by its proposal
placed_plain : (p : Proposal) (orgs : List Organisation) (e : Envelope) (flag : Flag) (block place : ℕ)
    → has_float (object (with_rest orgs e flag (with_proposal p (with_place block place no_members)))) ≡ false
placed_plain (proposal.Call x) orgs e flag block place =
    let q = e.payload in
    rw (
      items_plain (endorsement_json orgs (payload_bytes q)) (λ y. refl) e.endorsements,
      items_plain range_json range_plain q.ranges,
      items_plain read_json read_plain q.reads,
      items_plain write_item_json write_plain q.writes,
    ) refl
placed_plain (proposal.Upgrade u) orgs e flag block place =
    let q = e.payload in
    rw (
      items_plain (endorsement_json orgs (payload_bytes q)) (λ y. refl) e.endorsements,
      items_plain range_json range_plain q.ranges,
      items_plain read_json read_plain q.reads,
      items_plain write_item_json write_plain q.writes,
    ) refl
placed_plain (proposal.Amend x) orgs e flag block place =
    let q = e.payload in
    rw (
      items_plain member_json member_plain x.membership.members,
      items_plain (endorsement_json orgs (payload_bytes q)) (λ y. refl) e.endorsements,
      items_plain range_json range_plain q.ranges,
      items_plain read_json read_plain q.reads,
      items_plain write_item_json write_plain q.writes,
    ) refl

pub placed_transaction_plain : (orgs : List Organisation) (t : Placed) → has_float (placed_transaction_json orgs t) ≡ false
placed_transaction_plain orgs t = placed_plain t.envelope.payload.proposal orgs t.envelope t.flag t.version.block t.version.place
