-- What a line asks, over the data that it is as JSON. A JSON object has each of its members once, in the order of their names; so an object with
-- exactly some fields is written out in that order.
use Rattle.std.specs.Prelude.{◌≡◌, ◌≤◌, ℕ, List, length, codes, Some, Ok}
use Rattle.serde_json.specs.Data.{Data, object, member, no_members, Items, array, string, number, unsigned}
use Rattle.serde_json.specs.Read.{read}
use Rattle.json_fields.specs.Lists.{AreItems}
use Rattle.hex.specs.Hex.{decode_sized}
use Rattle.fab_types.specs.Limits.{IsBlockNumber, IsBound, IsKey, IsName, IsOrgName}
use Rattle.json_events.specs.Spelling.{IsArgument, IsHex, argument_name}
use Rattle.json_questions.specs.declared.question.Question.{Question}
use Rattle.json_questions.specs.declared.question.Question.TheVariants.{Setting, Members, Block, Get, Range, History, HistoryPart, Transaction, Satisfied, Call}

-- {"ask":"setting"}, and the same with another word
abbrev pub word_object : List ℕ → Data
word_object word = object (member (codes "ask") (string word) no_members)

-- {"ask":"block","number":7}
abbrev pub block_object : ℕ → Data
block_object n = object (member (codes "ask") (string (codes "block")) (member (codes "number") (number (unsigned n)) no_members))

-- {"ask":"get","key":"6b"}, and the same with another word and another name
abbrev pub text_object : (word name text : List ℕ) → Data
text_object word name text = object (member (codes "ask") (string word) (member name (string text) no_members))

-- {"ask":"range","end":"6c","limit":10,"start":"6b"}
abbrev pub range_object : (below : List ℕ) → (limit : ℕ) → (from : List ℕ) → Data
range_object below limit from =
    object (member (codes "ask") (string (codes "range")) (member (codes "end") (string below)
    (member (codes "limit") (number (unsigned limit)) (member (codes "start") (string from) no_members))))

-- {"ask":"history","blocks":100,"from":7,"key":"6b"}
abbrev pub part_object : (blocks from : ℕ) → (key : List ℕ) → Data
part_object blocks from key =
    object (member (codes "ask") (string (codes "history")) (member (codes "blocks") (number (unsigned blocks))
    (member (codes "from") (number (unsigned from)) (member (codes "key") (string key) no_members))))

-- {"ask":"satisfied","chaincode":"kv","orgs":["A","B"]}
abbrev pub satisfied_object : List ℕ → Items → Data
satisfied_object chaincode orgs =
    object (member (codes "ask") (string (codes "satisfied")) (member (codes "chaincode") (string chaincode) (member (codes "orgs") (array orgs) no_members)))

-- {"arg":"6b","ask":"call","chaincode":"kv"}, and the same with "args":["put","a"]
abbrev pub call_object : (arg : Data) → (chaincode : List ℕ) → Data
call_object arg chaincode =
    object (member (argument_name arg) arg (member (codes "ask") (string (codes "call")) (member (codes "chaincode") (string chaincode) no_members)))

-- the key that a text of hex stands for
abbrev pub IsKeyOf : List ℕ → List ℕ → Type 0
IsKeyOf text key = IsHex text key × IsKey key

-- the bound that a text of hex stands for
abbrev pub IsBoundOf : List ℕ → List ℕ → Type 0
IsBoundOf text bound = IsHex text bound × IsBound bound

-- so many entries, or blocks, at most may be asked for
abbrev pub IsLimit : ℕ → Type 0
IsLimit limit = (1 ≤ limit) × (limit ≤ 1000)

abbrev pub IsOrg : Data → List ℕ → Type 0
IsOrg d name = (d ≡ string name) × IsOrgName name

-- the names that the items are, up to 32
abbrev pub AreOrgs : Items → List (List ℕ) → Type 0
AreOrgs ds names = AreItems IsOrg ds names × (length names ≤ 32)

-- the question that the data of a line spells
abbrev pub IsQuestion : Data → Question → Type 0
IsQuestion d Setting = d ≡ word_object (codes "setting")
IsQuestion d Members = d ≡ word_object (codes "members")
IsQuestion d (Block n) = (d ≡ block_object n) × IsBlockNumber n
IsQuestion d (Get key) = (hex : List ℕ) × (d ≡ text_object (codes "get") (codes "key") hex) × IsKeyOf hex key
IsQuestion d (Range start end limit) =
    (from : List ℕ) × (below : List ℕ) × (d ≡ range_object below limit from) × IsBoundOf from start × IsBoundOf below end × IsLimit limit
IsQuestion d (History key) = (hex : List ℕ) × (d ≡ text_object (codes "history") (codes "key") hex) × IsKeyOf hex key
IsQuestion d (HistoryPart key from blocks) =
    (hex : List ℕ) × (d ≡ part_object blocks from hex) × IsKeyOf hex key × IsBlockNumber from × IsLimit blocks
IsQuestion d (Transaction id) = (hex : List ℕ) × (d ≡ text_object (codes "transaction") (codes "id") hex) × (decode_sized hex 32 ≡ Ok id)
IsQuestion d (Satisfied chaincode orgs) = (ds : Items) × (d ≡ satisfied_object chaincode ds) × IsName chaincode × AreOrgs ds orgs
IsQuestion d (Call chaincode argument) = (arg : Data) × (d ≡ call_object arg chaincode) × IsName chaincode × IsArgument arg argument

-- the question that a line spells
abbrev pub SpellsQuestion : List ℕ → Question → Type 0
SpellsQuestion line q = (d : Data) × (read line ≡ Some d) × IsQuestion d q
