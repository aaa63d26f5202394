-- What a ledger begins with, as JSON.
use Rattle.std.specs.Prelude.{ℕ, List, Option, Some, None, codes, option_and_then}
use Rattle.wasm_profile.specs.Numbers.{number_of}
use Rattle.fab_types.specs.Editions.{edition_number}
use Rattle.fab_types.specs.declared.edition.Edition.{Edition}
use Rattle.fab_types.specs.declared.edition.Edition.TheVariants.{First, Second}
use Rattle.org_keys.specs.Keys.{point_of}
use Rattle.org_keys.specs.declared.organisation.Organisation.{Organisation}
use Rattle.endorsement_policy.specs.Endorsed.{key_of, listed_policy, org_names}
use Rattle.endorsement_policy.specs.declared.installed.ModuleId.{ModuleId}
use Rattle.policy_language.specs.declared.policy.Policy.{Policy}
use Rattle.endorsement_policy.specs.declared.rules.ChaincodePolicy.{ChaincodePolicy}
use Rattle.policy_text.specs.Text.{policy_text}
use Rattle.chaincode_book.specs.declared.book.Chaincode.{Chaincode}
use Rattle.ledger_setting.specs.declared.genesis.Genesis.{Genesis}
use Rattle.serde_json.specs.Data.{Data, null, boolean, array, number, unsigned, string, Members, object, member, no_members, put}
use Rattle.serde_json.specs.View.{items_of}
use Rattle.json_chain.specs.Texts.{hex_json, list_json, pairs_json}

-- the shortest text of a policy
abbrev pub policy_json : Option Policy → Data
policy_json None = null
policy_json (Some policy) = string (policy_text policy)

abbrev pub module_json : ModuleId → Data
module_json id = object (member (codes "module") (hex_json id.digest) (member (codes "profile") (number (unsigned (number_of id.profile))) no_members))

-- a chaincode with the id of its module, and its policy among these
abbrev pub chaincode_json : List ChaincodePolicy → Chaincode → ModuleId → Data
chaincode_json policies c id =
    object (member (codes "fuel") (number (unsigned c.fuel)) (member (codes "module") (hex_json id.digest) (member (codes "name") (string c.name)
    (member (codes "policy") (policy_json (listed_policy policies c.name)) (member (codes "profile") (number (unsigned (number_of id.profile))) no_members)))))

-- the chaincodes, each with the id at its place
abbrev pub chaincodes_json : List ChaincodePolicy → List Chaincode → List ModuleId → List Data
chaincodes_json policies chaincodes ids = pairs_json (chaincode_json policies) chaincodes ids

-- a name, or {"name":"B","public":"d75a98.."} where there is a public key
abbrev pub named_json : List ℕ → Option (List ℕ) → Data
named_json name None = string name
named_json name (Some k) = object (member (codes "name") (string name) (member (codes "public") (hex_json k) no_members))

-- the organisation of this name among these, with its public key, if it has one, bound or not
abbrev pub org_json : List Organisation → List ℕ → Data
org_json orgs name = named_json name (option_and_then point_of (key_of orgs name))

-- what is set under all rules, but for the shared keys; the seats and the queue have no part in the chain
abbrev pub genesis_members : Genesis → Members
genesis_members g =
    let book = g.book.value in
    let rules = g.rules.value in
    member (codes "absolute") (number (unsigned g.absolute))
    (member (codes "chaincodes") (array (items_of (chaincodes_json rules.policies book.chaincodes book.installed.modules)))
    (member (codes "count") (number (unsigned g.count)) (member (codes "ledger") (number (unsigned 1))
    (member (codes "modules") (list_json module_json book.installed.modules)
    (member (codes "orgs") (list_json (org_json rules.orgs) (org_names book.installed.orgs))
    (member (codes "peers") (list_json string g.peers.items) (member (codes "preferred") (number (unsigned g.preferred))
    (member (codes "reorder") (boolean g.reorder) (member (codes "upgrade") (string (policy_text rules.upgrade)) no_members)))))))))

-- with the number of the rules and the SHA-256 of the genesis file, unless they are rules 1
abbrev pub with_rules : Edition → (ledger : List ℕ) → Members → Members
with_rules First ledger ms = ms
with_rules Second ledger ms = put (codes "digest") (hex_json ledger) (put (codes "rules") (number (unsigned (edition_number Second))) ms)

-- all that is set but the shared keys
abbrev pub genesis_json : Genesis → Data
genesis_json g = object (with_rules g.rules.value.edition g.rules.value.ledger (genesis_members g))

-- ---- the same members as they are put in

-- what batches are cut and ordered by, and the number of this form of a genesis
abbrev pub with_limits : Genesis → Members → Members
with_limits g ms =
    put (codes "reorder") (boolean g.reorder) (put (codes "preferred") (number (unsigned g.preferred)) (put (codes "ledger") (number (unsigned 1))
    (put (codes "count") (number (unsigned g.count)) (put (codes "absolute") (number (unsigned g.absolute)) ms))))

-- what is installed, who takes part, and the policies
abbrev pub with_book : Genesis → Members → Members
with_book g ms =
    let book = g.book.value in
    let rules = g.rules.value in
    put (codes "upgrade") (string (policy_text rules.upgrade)) (put (codes "peers") (list_json string g.peers.items)
    (put (codes "orgs") (list_json (org_json rules.orgs) (org_names book.installed.orgs)) (put (codes "modules") (list_json module_json book.installed.modules)
    (put (codes "chaincodes") (array (items_of (chaincodes_json rules.policies book.chaincodes book.installed.modules))) ms))))
