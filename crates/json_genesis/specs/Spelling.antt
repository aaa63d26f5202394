-- What a genesis file spells, over the data that it is as JSON. A JSON object has each of its members
-- once, in the order of their names; so an object with exactly some fields is written out in that order.
use Rattle.std.specs.Prelude.{◌≡◌, ◌&&◌, ℕ, Bool, true, not, List, [], ◌∷◌, ◌++◌, map, length, codes, Option, Some, None, Ok}
use Rattle.serde_json.specs.Data.{Data, Members, object, member, no_members, string, boolean, number, unsigned}
use Rattle.serde_json.specs.Read.{read}
use Rattle.json_fields.specs.NamedKeys.{public_object}
use Rattle.hex.specs.Hex.{decode_of}
use Rattle.sha2.specs.Sha256.{sha256}
use Rattle.wasm_profile.specs.Numbers.{number_of}
use Rattle.wasm_profile.specs.declared.profile.Profile.{Profile}
use Rattle.fab_types.specs.Limits.{IsName, IsOrgName}
use Rattle.wasm_ast.specs.declared.module.Module.{Module}
use Rattle.wasm_decode.specs.ModuleSpelling.{IsModule}
use Rattle.wasm_typing.specs.ModuleRules.{IsValid}
use Rattle.policy_language.specs.GoodSets.{Names, is_among}
use Rattle.policy_language.specs.Limits.{IsText}
use Rattle.ed25519.specs.Signing.{IsPublicKey}
use Rattle.org_keys.specs.Keys.{point_of}
use Rattle.org_keys.specs.TagKeys.{IsTagKey}
use Rattle.org_keys.specs.declared.organisation.OrgKey.{OrgKey}
use Rattle.org_keys.specs.declared.organisation.OrgKey.TheVariants as key
use Rattle.org_keys.specs.declared.organisation.Organisation.{Organisation}
use Rattle.fab_types.specs.Editions.{edition_number}
use Rattle.fab_types.specs.declared.edition.Edition.{Edition}
use Rattle.fab_types.specs.declared.edition.Edition.TheVariants.{First, Second}
use Rattle.endorsement_policy.specs.declared.installed.ModuleId.{ModuleId}
use Rattle.policy_language.specs.declared.policy.Policy.{Policy}
use Rattle.endorsement_policy.specs.declared.rules.ChaincodePolicy.{ChaincodePolicy}
use Rattle.chaincode_book.specs.Books.{Book, IsBook}
use Rattle.chaincode_book.specs.declared.book.Chaincode.{Chaincode}
use Rattle.chaincode_book.specs.declared.book.Held.{Held}
use Rattle.ledger_setting.specs.declared.genesis.Genesis.{Genesis}
use Rattle.json_genesis.specs.declared.definition.Definition.{Definition}
use Rattle.json_genesis.specs.Lists.{IsListOf, IsNumber}

-- the bytes that a text of hex stands for
abbrev pub IsHex : List ℕ → List ℕ → Type 0
IsHex text bytes = decode_of text ≡ Ok bytes

-- {"key":"4a656665","name":"A"}
abbrev pub shared_object : List ℕ → List ℕ → Data
shared_object key name = object (member (codes "key") (string key) (member (codes "name") (string name) no_members))

-- the object has this name with a public key of Ed25519: 32 bytes that are a point not of small order
abbrev pub IsNamedPoint : Data → List ℕ → List ℕ → Type 0
IsNamedPoint d name k = (hex : List ℕ) × (d ≡ public_object name hex) × IsHex hex k × (length k ≡ 32) × IsPublicKey k

-- the object has this name with a shared key of 1 to 128 bytes, or with a public key, which under rules 2 is bound to the ledger whose genesis file has
-- this SHA-256
abbrev pub IsNamedKey : Edition → (ledger : List ℕ) → Data → List ℕ → OrgKey → Type 0
IsNamedKey edition ledger d name (key.Shared k) = (hex : List ℕ) × (d ≡ shared_object hex name) × IsHex hex k × IsTagKey k
IsNamedKey edition ledger d name (key.Public k) = (edition ≡ First) × IsNamedPoint d name k
IsNamedKey edition ledger d name (key.Bound k bound) = (edition ≡ Second) × (bound ≡ ledger) × IsNamedPoint d name k

abbrev pub IsOrganisation : Edition → (ledger : List ℕ) → Data → Organisation → Type 0
IsOrganisation edition ledger d o = IsNamedKey edition ledger d o.name o.key × IsOrgName o.name

abbrev pub names_of : List Organisation → List (List ℕ)
names_of os = map (λ (o : Organisation). o.name) os

abbrev pub with_public : Option (List ℕ) → List (List ℕ) → List (List ℕ)
with_public None keys = keys
with_public (Some k) keys = k ∷ keys

-- the public keys, each as often as it stands
abbrev pub public_keys_of : List Organisation → List (List ℕ)
public_keys_of [] = []
public_keys_of (o ∷ os) = with_public (point_of o.key) (public_keys_of os)

-- none of these stands twice
abbrev pub are_different : List (List ℕ) → Bool
are_different [] = true
are_different (first ∷ others) = not (is_among others first) && are_different others

-- organisations of different names and different public keys
abbrev pub AreOrganisations : Edition → (ledger : List ℕ) → Data → List Organisation → Type 0
AreOrganisations edition ledger d os =
    IsListOf (IsOrganisation edition ledger) 1 16 d os × (are_different (names_of os) ≡ true) × (are_different (public_keys_of os) ≡ true)

-- "A": the organisation of a peer, which is one of these
abbrev pub IsPeer : List (List ℕ) → Data → List ℕ → Type 0
IsPeer orgs d name = (d ≡ string name) × IsOrgName name × (is_among orgs name ≡ true)

-- {"fuel":71,"module":"..","name":"kv","policy":"'A'","profile":1}
abbrev pub chaincode_object : Data → List ℕ → List ℕ → List ℕ → Data → Data
chaincode_object fuel hex name policy profile =
    object (member (codes "fuel") fuel (member (codes "module") (string hex) (member (codes "name") (string name)
    (member (codes "policy") (string policy) (member (codes "profile") profile no_members)))))

-- {"module":"..","profile":2}
abbrev pub module_object : List ℕ → Data → Data
module_object hex profile = object (member (codes "module") (string hex) (member (codes "profile") profile no_members))

-- 1 or 2: the number of this profile
abbrev pub IsProfile : Data → Profile → Type 0
IsProfile d profile = d ≡ number (unsigned (number_of profile))

-- the hex is of bytes that spell this module by the id's profile, which is valid, and that have the id's digest
abbrev pub IsHexModule : List ℕ → Module → ModuleId → Type 0
IsHexModule hex m id = (bytes : List ℕ) × IsHex hex bytes × IsModule id.profile m bytes × IsValid m × (id.digest ≡ sha256 bytes)

-- the hex is of this module by the profile that the data name
abbrev pub IsModuleOf : List ℕ → Data → Held → Type 0
IsModuleOf hex profile m = IsProfile profile m.id.profile × IsHexModule hex m.«module» m.id

-- one more module
abbrev pub IsInstalled : Data → Held → Type 0
IsInstalled d m = (hex : List ℕ) × (profile : Data) × (d ≡ module_object hex profile) × IsModuleOf hex profile m

-- "'A'": a policy over these organisations
abbrev pub IsPolicy : Names → Data → Policy → Type 0
IsPolicy orgs d policy = (text : List ℕ) × (d ≡ string text) × IsText orgs policy text

abbrev pub IsDefinition : List (List ℕ) → Data → Definition → Type 0
IsDefinition orgs d c =
    (fuel : Data) × (hex : List ℕ) × (policy : List ℕ) × (profile : Data)
    × (d ≡ chaincode_object fuel hex c.chaincode.name policy profile)
    × IsNumber 1 10000000 fuel c.chaincode.fuel × IsProfile profile c.id.profile × IsHexModule hex c.chaincode.«module» c.id
    × IsName c.chaincode.name × IsText orgs c.policy.policy policy × (c.policy.chaincode ≡ c.chaincode.name)

-- its module and its policy are those of these fields
abbrev pub HasParts : List (List ℕ) → (hex : List ℕ) → (profile : Data) → (policy : List ℕ) → Definition → Type 0
HasParts orgs hex profile policy c =
    IsProfile profile c.id.profile × IsHexModule hex c.chaincode.«module» c.id × IsText orgs c.policy.policy policy

abbrev pub chaincodes_of : List Definition → List Chaincode
chaincodes_of cs = map (λ (c : Definition). c.chaincode) cs

abbrev pub ids_of : List Definition → List ModuleId
ids_of cs = map (λ (c : Definition). c.id) cs

abbrev pub policies_of : List Definition → List ChaincodePolicy
policies_of cs = map (λ (c : Definition). c.policy) cs

abbrev pub more_modules_of : List Held → List Module
more_modules_of ms = map (λ (m : Held). m.«module») ms

abbrev pub more_ids_of : List Held → List ModuleId
more_ids_of ms = map (λ (m : Held). m.id) ms

-- the book by this edition of these chaincodes and more modules, where policies name these organisations and the first modules are at hand beside
-- them
abbrev pub book_of : Edition → List Organisation → List Held → List Definition → List Held → Book
book_of edition orgs held cs ms = record {
  edition = edition;
  chaincodes = chaincodes_of cs;
  modules = more_modules_of ms;
  installed = record { modules = ids_of cs ++ more_ids_of ms; orgs = orgs };
  held = held;
}

-- the book that the fields "chaincodes" and "modules" spell, with these modules at hand, and the policies of its chaincodes
abbrev pub IsBookOf : Edition → List Organisation → List Held → Data → Data → Book → List ChaincodePolicy → Type 0
IsBookOf edition orgs held chaincodes modules book policies =
    (cs : List Definition) × (ms : List Held)
    × IsListOf (IsDefinition (names_of orgs)) 1 16 chaincodes cs × IsListOf IsInstalled 0 16 modules ms
    × IsBook book × (book ≡ book_of edition orgs held cs ms) × (policies ≡ policies_of cs)

-- 1 or 2: the number of this edition. The first edition where there is no number
abbrev pub IsEdition : Option Data → Edition → Type 0
IsEdition None edition = edition ≡ First
IsEdition (Some d) edition = d ≡ number (unsigned (edition_number edition))

-- what the fields of the file hold; "rules" may be left out
pub record Parts : Type 0 where
  pub absolute : Data
  pub chaincodes : Data
  pub count : Data
  pub modules : Data
  pub orgs : Data
  pub peers : Data
  pub preferred : Data
  pub queue : Data
  pub reorder : Data
  pub rules : Option Data
  pub seats : Data
  pub upgrade : Data

-- these members, with the field "rules" before them where it is not left out
abbrev pub with_rules : Option Data → Members → Members
with_rules None ms = ms
with_rules (Some d) ms = member (codes "rules") d ms

-- the object that has exactly these fields
abbrev pub object_of : Parts → Data
object_of p =
    object (member (codes "absolute") p.absolute (member (codes "chaincodes") p.chaincodes (member (codes "count") p.count
    (member (codes "modules") p.modules (member (codes "orgs") p.orgs (member (codes "peers") p.peers
    (member (codes "preferred") p.preferred (member (codes "queue") p.queue (member (codes "reorder") p.reorder
    (with_rules p.rules (member (codes "seats") p.seats (member (codes "upgrade") p.upgrade no_members))))))))))))

-- the genesis that the fields of a file with this SHA-256 spell, with these modules and no seed at hand
pub record IsGenesis (ledger : List ℕ) (held : List Held) (p : Parts) (g : Genesis) : Type 0 where
  pub seats : IsNumber 1 64 p.seats g.seats
  pub queue : IsNumber 1 4096 p.queue g.queue
  pub count : IsNumber 1 512 p.count g.count
  pub preferred : IsNumber 1 524288 p.preferred g.preferred
  pub absolute : IsNumber 1 524288 p.absolute g.absolute
  pub reorder : p.reorder ≡ boolean g.reorder
  pub edition : IsEdition p.rules g.rules.value.edition
  pub digest : g.rules.value.ledger ≡ ledger
  pub organisations : AreOrganisations g.rules.value.edition ledger p.orgs g.rules.value.orgs
  pub peers : IsListOf (IsPeer (names_of g.rules.value.orgs)) 1 8 p.peers g.peers.items
  pub book : IsBookOf g.rules.value.edition g.rules.value.orgs held p.chaincodes p.modules g.book.value g.rules.value.policies
  pub upgrade : IsPolicy (names_of g.rules.value.orgs) p.upgrade g.rules.value.upgrade
  pub installed : g.rules.value.installed ≡ g.book.value.installed
  pub signers : g.signers.value ≡ []

-- the genesis that the data of a file with this SHA-256 spell, with these modules at hand
abbrev pub IsGenesisOf : (ledger : List ℕ) → List Held → Data → Genesis → Type 0
IsGenesisOf ledger held d g = (p : Parts) × (d ≡ object_of p) × IsGenesis ledger held p g

-- the genesis that a text spells, with these modules at hand in its book
abbrev pub SpellsHolding : List ℕ → List Held → Genesis → Type 0
SpellsHolding text held g = (d : Data) × (read text ≡ Some d) × IsGenesisOf (sha256 text) held d g

-- the genesis that a text spells
abbrev pub Spells : List ℕ → Genesis → Type 0
Spells text g = SpellsHolding text [] g

-- the modules that the data of a modules file spell
abbrev pub AreModules : Data → List Held → Type 0
AreModules d ms = IsListOf IsInstalled 0 64 d ms

-- the modules that a text spells
abbrev pub SpellsModules : List ℕ → List Held → Type 0
SpellsModules text ms = (d : Data) × (read text ≡ Some d) × AreModules d ms
