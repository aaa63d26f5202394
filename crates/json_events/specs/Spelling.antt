-- What a line of an events file spells, and what a line of proposals does, over the data that it is as JSON. A JSON
-- object has each of its members once, in the order of their names; so an object with exactly some fields is written
-- out in that order.
use Rattle.std.specs.Prelude.{◌≡◌, ◌≤◌, ◌<◌, ◌^◌, ◌⊎◌, ℕ, List, [], length, codes, Some, Ok, String, string_bytes}
use Rattle.std.specs.List.{join_by}
use Rattle.std.specs.declared.alloc.Global.{Global}
use Rattle.serde_json.specs.Data.{Data, object, member, no_members, Members, Items, array, put, string, number, unsigned}
use Rattle.serde_json.specs.Read.{read}
use Rattle.json_fields.specs.Lists.{AreItems}
use Rattle.json_fields.specs.NamedKeys.{public_object}
use Rattle.hex.specs.Hex.{decode_of, decode_sized}
use Rattle.fab_types.specs.Limits.{IsFuel, IsName, IsOrgName, IsPolicyText, IsValue}
use Rattle.fab_types.specs.Memberships.{IsMembers}
use Rattle.fab_types.specs.Spelling.{form_of}
use Rattle.fab_types.specs.declared.definition.Definition.{Definition}
use Rattle.fab_types.specs.declared.membership.Member.{Member}
use Rattle.fab_types.specs.declared.membership.MemberKey.{MemberKey}
use Rattle.fab_types.specs.declared.membership.MemberKey.TheVariants.{Kept, Public}
use Rattle.fab_types.specs.declared.membership.Membership.{Membership}
use Rattle.fab_types.specs.declared.proposal.Amend.{Amend}
use Rattle.fab_types.specs.declared.proposal.Call.{Call}
use Rattle.fab_types.specs.declared.proposal.Proposal.{Proposal}
use Rattle.fab_types.specs.declared.proposal.Proposal.TheVariants as proposal
use Rattle.fab_types.specs.declared.proposal.Upgrade.{Upgrade}
use Rattle.json_events.specs.declared.action.Action.{Action}
use Rattle.json_events.specs.declared.action.Action.TheVariants.{Begin, Finish, SubmitEndorsed, SubmitBytes, Take, Tick, Commit}

-- the bytes that a text of hex stands for
abbrev pub IsHex : List ℕ → List ℕ → Type 0
IsHex text bytes = decode_of text ≡ Ok bytes

-- the strings that the items are
abbrev pub AreTexts : Items → List (String Global) → Type 0
AreTexts ds xs = AreItems (λ d x. d ≡ string (string_bytes x)) ds xs

-- the bytes of these strings, with one space between
abbrev pub AreJoined : Items → List ℕ → Type 0
AreJoined ds bytes = (texts : List (String Global)) × AreTexts ds texts × (bytes ≡ join_by string_bytes (codes " ") texts)

-- the bytes that hex or a list of texts stands for
abbrev pub StandsFor : Data → List ℕ → Type 0
StandsFor (string hex) bytes = IsHex hex bytes
StandsFor (array texts) bytes = AreJoined texts bytes
StandsFor d bytes = ⊥

-- an argument is hex or a list of texts
abbrev pub IsArgument : Data → List ℕ → Type 0
IsArgument d bytes = StandsFor d bytes × IsValue bytes

-- the same, or `-` for no bytes
abbrev pub IsArgumentOrDash : Data → List ℕ → Type 0
IsArgumentOrDash d bytes = ((d ≡ string (codes "-")) × (bytes ≡ [])) ⊎ IsArgument d bytes

-- the call of this argument and these texts; a nonce has 16 bytes
abbrev pub IsCall : Data → List ℕ → List ℕ → Call → Type 0
IsCall arg chaincode nonce c =
    (c.chaincode ≡ chaincode) × IsName chaincode × IsArgumentOrDash arg c.argument × (decode_sized nonce 16 ≡ Ok c.nonce)

-- the definition of a fuel and these texts, whose first byte is the number in "profile"; a digest has 32 bytes
abbrev pub IsDefinition : ℕ → List ℕ → List ℕ → ℕ → Definition → Type 0
IsDefinition fuel digest policy profile d =
    (form_of d ≡ profile) × (decode_sized digest 32 ≡ Ok d.digest) × (d.fuel ≡ fuel) × IsFuel fuel
    × (d.policy ≡ policy) × IsPolicyText policy

-- the upgrade to such a definition
abbrev pub IsUpgrade : ℕ → List ℕ → List ℕ → List ℕ → ℕ → List ℕ → Upgrade → Type 0
IsUpgrade fuel digest nonce policy profile chaincode u =
    (u.chaincode ≡ chaincode) × IsName chaincode × IsDefinition fuel digest policy profile u.definition × (decode_sized nonce 16 ≡ Ok u.nonce)

-- {"name":"A"}
abbrev pub kept_object : List ℕ → Data
kept_object name = object (member (codes "name") (string name) no_members)

-- the object has this name alone where the member keeps its key, or beside it a public key of 32 bytes
abbrev pub IsNamedKey : Data → List ℕ → MemberKey → Type 0
IsNamedKey d name Kept = d ≡ kept_object name
IsNamedKey d name (Public k) = (hex : List ℕ) × (d ≡ public_object name hex) × (decode_sized hex 32 ≡ Ok k)

abbrev pub IsMember : Data → Member → Type 0
IsMember d m = IsNamedKey d m.name m.key × IsOrgName m.name

-- 1 to 16 members, whose names ascend
abbrev pub AreMembers : Items → List Member → Type 0
AreMembers ds ms = AreItems IsMember ds ms × IsMembers ms

-- the membership of these members, a policy's text and a serial number of 32 bits
abbrev pub IsMembership : Items → List ℕ → ℕ → Membership → Type 0
IsMembership members policy serial s =
    (s.serial ≡ serial) × (serial < 2 ^ 32) × AreMembers members s.members × (s.policy ≡ policy) × IsPolicyText policy

-- the amendment to such a membership; a nonce has 16 bytes
abbrev pub IsAmend : Items → List ℕ → List ℕ → ℕ → Amend → Type 0
IsAmend members nonce policy serial a = IsMembership members policy serial a.membership × (decode_sized nonce 16 ≡ Ok a.nonce)

-- the names that a submit uses
abbrev pub AreNames : Items → List (String Global) → Type 0
AreNames ds xs = AreTexts ds xs × (1 ≤ length xs) × (length xs ≤ 32)

-- .., "peer":0, "seat":0}
abbrev pub seat_members : ℕ → ℕ → Members
seat_members peer seat = member (codes "peer") (number (unsigned peer)) (member (codes "seat") (number (unsigned seat)) no_members)

-- a list of texts has the name "args", and hex "arg"
abbrev pub argument_name : Data → List ℕ
argument_name (array texts) = codes "args"
argument_name d = codes "arg"

-- "arg":"-", "chaincode":"kv", "nonce":".."; or "args":["put","a"], and the others
abbrev pub call_members : Data → List ℕ → List ℕ → Members
call_members arg chaincode nonce =
    member (argument_name arg) arg (member (codes "chaincode") (string chaincode) (member (codes "nonce") (string nonce) no_members))

-- "fuel":141, "module":"..", "nonce":"..", "policy":"..", "profile":1, "upgrade":"kv"
abbrev pub upgrade_members : ℕ → List ℕ → List ℕ → List ℕ → ℕ → List ℕ → Members
upgrade_members fuel digest nonce policy profile chaincode =
    member (codes "fuel") (number (unsigned fuel)) (member (codes "module") (string digest) (member (codes "nonce") (string nonce)
    (member (codes "policy") (string policy) (member (codes "profile") (number (unsigned profile)) (member (codes "upgrade") (string chaincode) no_members)))))

-- "members":[{"name":"A"},..], "nonce":"..", "policy":"..", "serial":1
abbrev pub amend_members : Items → List ℕ → List ℕ → ℕ → Members
amend_members members nonce policy serial =
    member (codes "members") (array members) (member (codes "nonce") (string nonce)
    (member (codes "policy") (string policy) (member (codes "serial") (number (unsigned serial)) no_members)))

-- {.., "do":"begin", .., "peer":0, .., "seat":0, ..}: a begin has three members beside those of its proposal
abbrev pub begin_object : ℕ → ℕ → Members → Data
begin_object peer seat ms =
    object (put (codes "do") (string (codes "begin")) (put (codes "peer") (number (unsigned peer)) (put (codes "seat") (number (unsigned seat)) ms)))

-- {"as":"e1", "do":"finish", "peer":0, "seat":0}
abbrev pub finish_object : List ℕ → ℕ → ℕ → Data
finish_object name peer seat = object (member (codes "as") (string name) (member (codes "do") (string (codes "finish")) (seat_members peer seat)))

-- {"do":"submit", "use":["e1","e2"]}
abbrev pub use_object : Items → Data
use_object names = object (member (codes "do") (string (codes "submit")) (member (codes "use") (array names) no_members))

-- {"do":"submit", "hex":".."}
abbrev pub hex_object : List ℕ → Data
hex_object hex = object (member (codes "do") (string (codes "submit")) (member (codes "hex") (string hex) no_members))

-- {"do":".."}
abbrev pub word_object : List ℕ → Data
word_object word = object (member (codes "do") (string word) no_members)

-- {"do":"commit", "peer":0}
abbrev pub commit_object : ℕ → Data
commit_object peer = object (member (codes "do") (string (codes "commit")) (member (codes "peer") (number (unsigned peer)) no_members))

-- the proposal that the data of a line spells
abbrev pub IsProposal : Data → Proposal → Type 0
IsProposal d (proposal.Call c) =
    (arg : Data) × (chaincode : List ℕ) × (nonce : List ℕ) × (d ≡ object (call_members arg chaincode nonce)) × IsCall arg chaincode nonce c
IsProposal d (proposal.Upgrade u) =
    (fuel : ℕ) × (digest : List ℕ) × (nonce : List ℕ) × (policy : List ℕ) × (profile : ℕ) × (chaincode : List ℕ)
    × (d ≡ object (upgrade_members fuel digest nonce policy profile chaincode)) × IsUpgrade fuel digest nonce policy profile chaincode u
IsProposal d (proposal.Amend a) =
    (members : Items) × (nonce : List ℕ) × (policy : List ℕ) × (serial : ℕ)
    × (d ≡ object (amend_members members nonce policy serial)) × IsAmend members nonce policy serial a

-- the action that the data of a line spells
abbrev pub IsAction : Data → Action → Type 0
IsAction d (Begin peer seat p) = (ms : Members) × (d ≡ begin_object peer seat ms) × IsProposal (object ms) p
IsAction d (Finish peer seat name) = d ≡ finish_object (string_bytes name) peer seat
IsAction d (SubmitEndorsed names) = (ds : Items) × (d ≡ use_object ds) × AreNames ds names.items
IsAction d (SubmitBytes bytes) = (hex : List ℕ) × (d ≡ hex_object hex) × IsHex hex bytes.items
IsAction d Take = d ≡ word_object (codes "take")
IsAction d Tick = d ≡ word_object (codes "tick")
IsAction d (Commit peer) = d ≡ commit_object peer

-- the action that a line spells
abbrev pub Spells : List ℕ → Action → Type 0
Spells line a = (d : Data) × (read line ≡ Some d) × IsAction d a

-- the proposal that a line spells
abbrev pub SpellsProposal : List ℕ → Proposal → Type 0
SpellsProposal line p = (d : Data) × (read line ≡ Some d) × IsProposal d p
