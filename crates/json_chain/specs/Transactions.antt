-- Transactions as JSON.
use Rattle.std.specs.Prelude.{ℕ, List, codes}
use Rattle.std.specs.List.{find}
use Rattle.fab_types.specs.FlagNumber.{flag_number}
use Rattle.fab_types.specs.declared.definition.Definition.{Definition}
use Rattle.fab_types.specs.declared.envelope.Endorsement.{Endorsement}
use Rattle.fab_types.specs.declared.envelope.Envelope.{Envelope}
use Rattle.fab_types.specs.declared.flag.Flag.{Flag}
use Rattle.fab_types.specs.Payloads.{Payload}
use Rattle.fab_types.specs.declared.proposal.Amend.{Amend}
use Rattle.fab_types.specs.declared.proposal.Call.{Call}
use Rattle.fab_types.specs.declared.proposal.Upgrade.{Upgrade}
use Rattle.fab_types.specs.declared.proposal.Proposal.{Proposal}
use Rattle.fab_types.specs.declared.proposal.Proposal.TheVariants as proposal
use Rattle.wire.specs.Ids.{id_of}
use Rattle.fab_types.specs.Spelling.{form_of, payload_bytes}
use Rattle.fab_types.specs.Tags.{tag_bytes}
use Rattle.endorsement_policy.specs.Endorsed.{is_org, is_tag_of}
use Rattle.org_keys.specs.declared.organisation.Organisation.{Organisation}
use Rattle.ledger_model.specs.Chain.{Placed}
use Rattle.serde_json.specs.Data.{Data, boolean, number, unsigned, string, Members, object, member, no_members, put}
use Rattle.json_chain.specs.Texts.{hex_json, list_json}
use Rattle.json_chain.specs.Memberships.{membership_json}
use Rattle.json_chain.specs.Sets.{range_json, read_json, write_item_json}

-- whose endorsement it is, and whether the tag is that organisation's on these bytes
abbrev pub endorsement_json : List Organisation → List ℕ → Endorsement → Data
endorsement_json orgs bytes e =
    object (member (codes "org") (string e.org) (member (codes "right") (boolean (is_tag_of (find (is_org e.org) orgs) bytes e.tag))
    (member (codes "tag") (hex_json (tag_bytes e.tag)) no_members)))

-- "profile" is the first byte of the definition: 1 and 2 of a closed one, 17 and 18 of an open one
abbrev pub definition_json : Definition → Data
definition_json d =
    object (member (codes "fuel") (number (unsigned d.fuel)) (member (codes "module") (hex_json d.digest)
    (member (codes "policy") (string d.policy) (member (codes "profile") (number (unsigned (form_of d))) no_members))))

-- a call, with what all transactions have
abbrev pub call_json : Call → Flag → (endorsements id ranges reads result writes : Data) → Data
call_json c flag endorsements id ranges reads result writes =
    object (member (codes "arg") (hex_json c.argument) (member (codes "chaincode") (string c.chaincode) (member (codes "endorsements") endorsements
    (member (codes "flag") (number (unsigned (flag_number flag))) (member (codes "id") id (member (codes "nonce") (hex_json c.nonce)
    (member (codes "ranges") ranges (member (codes "reads") reads (member (codes "result") result (member (codes "writes") writes no_members))))))))))

abbrev pub upgrade_json : Upgrade → Flag → (endorsements id ranges reads result writes : Data) → Data
upgrade_json u flag endorsements id ranges reads result writes =
    object (member (codes "chaincode") (string u.chaincode) (member (codes "endorsements") endorsements
    (member (codes "flag") (number (unsigned (flag_number flag))) (member (codes "id") id (member (codes "nonce") (hex_json u.nonce)
    (member (codes "ranges") ranges (member (codes "reads") reads (member (codes "result") result
    (member (codes "upgrade") (definition_json u.definition) (member (codes "writes") writes no_members))))))))))

abbrev pub amend_json : Amend → Flag → (endorsements id ranges reads result writes : Data) → Data
amend_json a flag endorsements id ranges reads result writes =
    object (member (codes "amend") (membership_json a.membership) (member (codes "endorsements") endorsements
    (member (codes "flag") (number (unsigned (flag_number flag))) (member (codes "id") id (member (codes "nonce") (hex_json a.nonce)
    (member (codes "ranges") ranges (member (codes "reads") reads (member (codes "result") result (member (codes "writes") writes no_members)))))))))

abbrev pub proposal_json : Proposal → Flag → (endorsements id ranges reads result writes : Data) → Data
proposal_json (proposal.Call c) = call_json c
proposal_json (proposal.Upgrade u) = upgrade_json u
proposal_json (proposal.Amend a) = amend_json a

abbrev pub endorsements_json : List Organisation → Envelope → Data
endorsements_json orgs e = list_json (endorsement_json orgs (payload_bytes e.payload)) e.endorsements

-- made of what all transactions have
abbrev pub of_parts : (json : (endorsements id ranges reads result writes : Data) → Data) → List Organisation → Envelope → Data
of_parts json orgs e =
    let p = e.payload in
    json (endorsements_json orgs e) (hex_json (id_of p.proposal)) (list_json range_json p.ranges) (list_json read_json p.reads)
    (hex_json p.result) (list_json write_item_json p.writes)

-- a transaction with its flag, under the keys of these organisations
abbrev pub transaction_json : List Organisation → Envelope → Flag → Data
transaction_json orgs e flag = of_parts (proposal_json e.payload.proposal flag) orgs e

-- ---- the same members as they are put in

abbrev pub with_call : Call → Members → Members
with_call c ms = put (codes "nonce") (hex_json c.nonce) (put (codes "chaincode") (string c.chaincode) (put (codes "arg") (hex_json c.argument) ms))

abbrev pub with_upgrade : Upgrade → Members → Members
with_upgrade u ms =
    put (codes "upgrade") (definition_json u.definition) (put (codes "nonce") (hex_json u.nonce) (put (codes "chaincode") (string u.chaincode) ms))

abbrev pub with_amend : Amend → Members → Members
with_amend a ms = put (codes "nonce") (hex_json a.nonce) (put (codes "amend") (membership_json a.membership) ms)

abbrev pub with_payload : Payload → Members → Members
with_payload p ms =
    put (codes "writes") (list_json write_item_json p.writes) (put (codes "result") (hex_json p.result)
    (put (codes "reads") (list_json read_json p.reads) (put (codes "ranges") (list_json range_json p.ranges) ms)))

-- what all transactions have
abbrev pub with_rest : List Organisation → Envelope → Flag → Members → Members
with_rest orgs e flag ms =
    with_payload e.payload (put (codes "id") (hex_json (id_of e.payload.proposal)) (put (codes "flag") (number (unsigned (flag_number flag)))
    (put (codes "endorsements") (endorsements_json orgs e) ms)))

-- what a proposal has alone
abbrev pub with_proposal : Proposal → Members → Members
with_proposal (proposal.Call c) ms = with_call c ms
with_proposal (proposal.Upgrade u) ms = with_upgrade u ms
with_proposal (proposal.Amend a) ms = with_amend a ms

-- ---- beside blocks

-- what a payload read, gave and would write
abbrev pub payload_json : Payload → Data
payload_json p =
    object (member (codes "ranges") (list_json range_json p.ranges) (member (codes "reads") (list_json read_json p.reads)
    (member (codes "result") (hex_json p.result) (member (codes "writes") (list_json write_item_json p.writes) no_members))))

-- the number of a block, and a place in it
abbrev pub with_place : (block place : ℕ) → Members → Members
with_place block place ms = put (codes "place") (number (unsigned place)) (put (codes "block") (number (unsigned block)) ms)

-- what a transaction is in its block, with the number of the block and its place there
abbrev pub placed_transaction_json : List Organisation → Placed → Data
placed_transaction_json orgs t =
    object (with_rest orgs t.envelope t.flag (with_proposal t.envelope.payload.proposal (with_place t.version.block t.version.place no_members)))
