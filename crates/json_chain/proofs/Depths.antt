-- How deep the lines nest.
use Rattle.std.proofs.Common.{ℕ, ◌≤◌, List, [], ◌∷◌, Option, Some, None, map, codes, arith}
use Rattle.std.specs.Prelude.{option_and_then}
use Rattle.fab_types.specs.Version.{Version}
use Rattle.fab_types.specs.Sets.{Range}
use Rattle.fab_types.specs.Committed.{Committed}
use Rattle.fab_types.specs.declared.items.ReadItem.{ReadItem}
use Rattle.fab_types.specs.declared.items.WriteItem.{WriteItem}
use Rattle.fab_types.specs.declared.edition.Edition.{Edition}
use Rattle.fab_types.specs.declared.edition.Edition.TheVariants.{First, Second}
use Rattle.fab_types.specs.declared.envelope.Envelope.{Envelope}
use Rattle.fab_types.specs.declared.membership.Member.{Member}
use Rattle.fab_types.specs.declared.membership.MemberKey.{MemberKey}
use Rattle.fab_types.specs.declared.membership.MemberKey.TheVariants.{Kept, Public}
use Rattle.fab_types.specs.declared.membership.Membership.{Membership}
use Rattle.fab_types.specs.declared.flag.Flag.{Flag}
use Rattle.fab_types.specs.declared.proposal.Proposal.{Proposal}
use Rattle.fab_types.specs.declared.proposal.Proposal.TheVariants as proposal
use Rattle.policy_language.specs.declared.policy.Policy.{Policy}
use Rattle.endorsement_policy.specs.declared.installed.ModuleId.{ModuleId}
use Rattle.org_keys.specs.Keys.{point_of}
use Rattle.org_keys.specs.declared.organisation.Organisation.{Organisation}
use Rattle.endorsement_policy.specs.declared.rules.ChaincodePolicy.{ChaincodePolicy}
use Rattle.endorsement_policy.specs.Endorsed.{Listed, key_of, listed_policy, org_names}
use Rattle.chaincode_book.specs.declared.book.Chaincode.{Chaincode}
use Rattle.ledger_setting.specs.declared.genesis.Genesis.{Genesis}
use Rattle.serde_json.specs.Data.{Data, depth, items_depth, string, object, member, no_members}
use Rattle.serde_json.specs.View.{items_of}
use Rattle.fab_types.specs.Spelling.{payload_bytes}
use Rattle.json_chain.specs.Texts.{pairs_json, value_json}
use Rattle.json_chain.specs.Memberships.{kept_json, member_json, membership_json, standing_json, with_key}
use Rattle.json_chain.specs.Sets.{range_entry_json, range_json, read_json, seen_json, write_item_json}
use Rattle.fab_types.specs.Payloads.{Payload}
use Rattle.ledger_model.specs.Chain.{Placed}
use Rattle.json_chain.specs.Transactions.{endorsement_json, payload_json, placed_transaction_json, proposal_json, transaction_json, with_place}
use Rattle.json_chain.specs.Transactions.{with_proposal, with_rest}
use Rattle.json_chain.specs.Blocks.{block_json}
use Rattle.json_chain.specs.Genesis.{chaincode_json, module_json, named_json, org_json, policy_json, genesis_json, genesis_members, with_rules}
use Rattle.wire.specs.Ids.{id_of}
use Rattle.json_chain.specs.Entries.{placed_write_json}
use Rattle.json_chain.specs.Writes.{did_json}

pub items_low : {A : Type 0} (json : A → Data) (n : ℕ) → ((x : A) → depth (json x) ≤ n) → (xs : List A) → items_depth (items_of (map json xs)) ≤ n
items_low json n low [] = omega arith
items_low json n low (x ∷ xs) = omega (arith, low x, items_low json n low xs)

pairs_low : {A B : Type 0} (json : A → B → Data) (n : ℕ) → ((x : A) (y : B) → depth (json x y) ≤ n) → (xs : List A) (ys : List B) →
    items_depth (items_of (pairs_json json xs ys)) ≤ n
pairs_low json n low [] ys = omega arith
pairs_low json n low (x ∷ xs) [] = omega arith
pairs_low json n low (x ∷ xs) (y ∷ ys) = omega (arith, low x y, pairs_low json n low xs ys)

value_low : (value : Option (List ℕ)) → depth (value_json value) ≤ 0
value_low None = omega arith
value_low (Some value) = omega arith

seen_low : (version : Option Version) → depth (seen_json version) ≤ 0
seen_low None = omega arith
seen_low (Some version) = omega arith

read_low : (r : ReadItem) → depth (read_json r) ≤ 1
read_low r = omega (arith, seen_low r.version)

write_low : (w : WriteItem) → depth (write_item_json w) ≤ 1
write_low w = omega (arith, value_low w.value)

range_low : (r : Range) → depth (range_json r) ≤ 3
range_low r = omega (arith, items_low range_entry_json 1 (λ e. omega arith) r.entries)

key_low : (name : List ℕ) (k : MemberKey) → depth (object (with_key k (member (codes "name") (string name) no_members))) ≤ 1
key_low name Kept = omega arith
key_low name (Public k) = omega arith

member_low : (m : Member) → depth (member_json m) ≤ 1
member_low m = key_low m.name m.key

membership_low : (s : Membership) → depth (membership_json s) ≤ 3
membership_low s = omega (arith, items_low member_json 1 member_low s.members)

pub standing_low : (r : Listed) (s : Option Membership) → depth (standing_json r s) ≤ 3
standing_low r None = omega (arith, items_low kept_json 1 (λ o. omega arith) r.orgs)
standing_low r (Some s) = membership_low s

proposal_low : (p : Proposal) (flag : Flag) (a b c d e f : Data) → depth a ≤ 4 → depth b ≤ 4 → depth c ≤ 4 → depth d ≤ 4 → depth e ≤ 4 → depth f ≤ 4 →
    depth (proposal_json p flag a b c d e f) ≤ 5
proposal_low (proposal.Call x) flag a b c d e f ha hb hc hd he hf = omega arith
proposal_low (proposal.Upgrade u) flag a b c d e f ha hb hc hd he hf = omega arith
proposal_low (proposal.Amend x) flag a b c d e f ha hb hc hd he hf = omega (arith, membership_low x.membership)

transaction_low : (orgs : List Organisation) (e : Envelope) (flag : Flag) → depth (transaction_json orgs e flag) ≤ 5
transaction_low orgs e flag =
    let p = e.payload in
    proposal_low p.proposal flag _ _ _ _ _ _
    (omega (arith, items_low (endorsement_json orgs (payload_bytes p)) 1 (λ x. omega arith) e.endorsements))
    (omega arith) (omega (arith, items_low range_json 3 range_low p.ranges)) (omega (arith, items_low read_json 1 read_low p.reads))
    (omega arith) (omega (arith, items_low write_item_json 1 write_low p.writes))

pub block_low : (orgs : List Organisation) (c : Committed) → depth (block_json orgs c) ≤ 7
block_low orgs c = omega (arith, pairs_low (transaction_json orgs) 5 (transaction_low orgs) c.block.envelopes c.flags)

policy_low : (p : Option Policy) → depth (policy_json p) ≤ 0
policy_low None = omega arith
policy_low (Some p) = omega arith

chaincode_low : (policies : List ChaincodePolicy) (c : Chaincode) (id : ModuleId) → depth (chaincode_json policies c id) ≤ 1
chaincode_low policies c id = omega (arith, policy_low (listed_policy policies c.name))

string_low : (s : List ℕ) → depth (string s) ≤ 0
string_low s = omega arith

module_low : (id : ModuleId) → depth (module_json id) ≤ 1
module_low id = omega arith

named_low : (name : List ℕ) (k : Option (List ℕ)) → depth (named_json name k) ≤ 1
named_low name None = omega arith
named_low name (Some k) = omega arith

org_low : (orgs : List Organisation) (name : List ℕ) → depth (org_json orgs name) ≤ 1
org_low orgs name = named_low name (option_and_then point_of (key_of orgs name))

-- under these rules
genesis_low_by : (edition : Edition) (g : Genesis) → depth (object (with_rules edition g.rules.value.ledger (genesis_members g))) ≤ 3
genesis_low_by First g =
    let book = g.book.value in
    omega (
      arith,
      pairs_low (chaincode_json g.rules.value.policies) 1 (chaincode_low g.rules.value.policies) book.chaincodes book.installed.modules,
      items_low module_json 1 module_low book.installed.modules,
      items_low (org_json g.rules.value.orgs) 1 (org_low g.rules.value.orgs) (org_names book.installed.orgs),
      items_low string 0 string_low g.peers.items,
    )
genesis_low_by Second g =
    let book = g.book.value in
    omega (
      arith,
      pairs_low (chaincode_json g.rules.value.policies) 1 (chaincode_low g.rules.value.policies) book.chaincodes book.installed.modules,
      items_low module_json 1 module_low book.installed.modules,
      items_low (org_json g.rules.value.orgs) 1 (org_low g.rules.value.orgs) (org_names book.installed.orgs),
      items_low string 0 string_low g.peers.items,
    )

pub genesis_low : (g : Genesis) → depth (genesis_json g) ≤ 3
genesis_low g = genesis_low_by g.rules.value.edition g

pub placed_write_low : (id : List ℕ) (block place : ℕ) (key : List ℕ) (value : Option (List ℕ)) → depth (placed_write_json id block place key value) ≤ 1
placed_write_low id block place key value = omega (arith, value_low value)

pub did_low : (t : Placed) (key : List ℕ) (w : Version × Option (List ℕ)) → depth (did_json t key w) ≤ 1
did_low t key w = omega (arith, placed_write_low (id_of t.envelope.payload.proposal) w.0.block w.0.place key w.1)

pub payload_low : (p : Payload) → depth (payload_json p) ≤ 5
payload_low p =
    omega (arith, items_low range_json 3 range_low p.ranges, items_low read_json 1 read_low p.reads, items_low write_item_json 1 write_low p.writes)

-- a transaction with its place, by its proposal
placed_low : (p : Proposal) (orgs : List Organisation) (e : Envelope) (flag : Flag) (block place : ℕ)
    → depth (object (with_rest orgs e flag (with_proposal p (with_place block place no_members)))) ≤ 5
placed_low (proposal.Call x) orgs e flag block place =
    let q = e.payload in
    omega (
      arith,
      items_low (endorsement_json orgs (payload_bytes q)) 1 (λ x. omega arith) e.endorsements,
      items_low range_json 3 range_low q.ranges,
      items_low read_json 1 read_low q.reads,
      items_low write_item_json 1 write_low q.writes,
    )
placed_low (proposal.Upgrade u) orgs e flag block place =
    let q = e.payload in
    omega (
      arith,
      items_low (endorsement_json orgs (payload_bytes q)) 1 (λ x. omega arith) e.endorsements,
      items_low range_json 3 range_low q.ranges,
      items_low read_json 1 read_low q.reads,
      items_low write_item_json 1 write_low q.writes,
    )
placed_low (proposal.Amend x) orgs e flag block place =
    let q = e.payload in
    omega (
      arith,
      membership_low x.membership,
      items_low (endorsement_json orgs (payload_bytes q)) 1 (λ x. omega arith) e.endorsements,
      items_low range_json 3 range_low q.ranges,
      items_low read_json 1 read_low q.reads,
      items_low write_item_json 1 write_low q.writes,
    )

pub placed_transaction_low : (orgs : List Organisation) (t : Placed) → depth (placed_transaction_json orgs t) ≤ 5
placed_transaction_low orgs t = placed_low t.envelope.payload.proposal orgs t.envelope t.flag t.version.block t.version.place
