-- What a peer answers to a line that asks for something, by its chain.
use Rattle.std.specs.Prelude.{◌≡◌, ◌⊎◌, ◌++◌, ℕ, Bool, false, List, Option, Some, None, codes, length}
use Rattle.std.specs.Fmt.{decimal}
use Rattle.std.specs.Str.Lossy.{utf8_lossy}
use Rattle.hex.specs.Hex.{encode_lower}
use Rattle.fab_types.specs.Committed.{Committed}
use Rattle.fab_types.specs.declared.tag.Tag.{Tag}
use Rattle.fab_types.specs.declared.tag.Tag.TheVariants as tag
use Rattle.endorsement_policy.specs.Endorsed.{key_of}
use Rattle.endorsement_policy.specs.Judge.{orgs_behind}
use Rattle.json_chain.specs.JsonText.{IsJsonText}
use Rattle.json_questions.specs.Answers.{AsksBlocks, GivesBack, answer_from}
use Rattle.json_questions.specs.Spelling.{SpellsQuestion}
use Rattle.json_questions.specs.declared.question.Question.{Question}
use Rattle.ledger_model.specs.Chain.{Bytes, Chain}
use Rattle.ledger_setting.specs.declared.genesis.Genesis.{Genesis}
use Rattle.log_committer.specs.Committing.{block_at, header_hash}
use Rattle.org_keys.specs.Signers.{tag_for}
use Rattle.org_keys.specs.declared.organisation.Organisation.{Organisation}
use Rattle.peer_answers.specs.Calls.{IsCalled}
use Rattle.peer_answers.specs.Numbers.{IsDecimal}
use Rattle.peer_answers.specs.Seen.{seen_bytes}
use Rattle.peer_answers.specs.declared.line.Request.{Request}
use Rattle.peer_answers.specs.declared.line.Request.TheVariants.{Call, Question as Asked, Seen}
use Rattle.peer_answers.specs.declared.log_genesis.LogGenesis.{LogGenesis}

-- the genesis of the log with its file's SHA-256, and for whom it endorses, if for anybody
pub record Peer : Type 0 where
  pub log : LogGenesis
  pub org : Option Bytes
  -- whether its file gives back what it was given: it is known what the file holds
  pub keeps : Bool

-- ---- questions

-- a block is not read back
abbrev pub IsLost : (said : Bytes) → Type 0
IsLost said = (said ≡ codes "refused 703") ⊎ ((n : ℕ) × (said ≡ codes "refused 702 block " ++ decimal n))

-- this is the text of the answer after the chain, by what the file gives back of it; or a block that the question asks for is not read back
abbrev pub IsReply : (keeps : Bool) → Genesis → Question → Chain → (said : Bytes) → Type 0
IsReply keeps g q chain said =
    ((read : Chain) × GivesBack keeps chain read × IsJsonText (answer_from g q chain read) said)
    ⊎ ((keeps ≡ false) × AsksBlocks q × IsLost said)

-- words spell a question, and this is said to it; or they spell none
abbrev pub IsAnswered : (keeps : Bool) → Genesis → Chain → (words said : Bytes) → Type 0
IsAnswered keeps g chain words said =
    ((q : Question) × SpellsQuestion words q × IsReply keeps g q chain said)
    ⊎ (((q : Question) → ¬ SpellsQuestion words q) × (said ≡ codes "bad"))

-- ---- what the organisation says of a block

-- behind the hash: the signature, if the organisation stands with a public key whose seed is at hand
abbrev pub signature_words : Tag → Bytes
signature_words (tag.Hmac mac) = codes ""
signature_words (tag.Ed25519 signature) = codes " " ++ encode_lower signature

abbrev pub said_words : (org : Bytes) (number : ℕ) (hash : Bytes) → Tag → Bytes
said_words org number hash signed =
    codes "seen " ++ (utf8_lossy org ++ (codes " " ++ (decimal number ++ (codes " " ++ (encode_lower hash ++ signature_words signed)))))

-- which hash the header of the block of a number has, signed by the key with which the organisation stands among these
abbrev pub seen_at : LogGenesis → Bytes → List Organisation → (number : ℕ) (hash : Bytes) → Bytes
seen_at log org orgs number hash =
    said_words org number hash (tag_for log.genesis.signers.value (key_of orgs org) (seen_bytes log.digest number hash))

-- the same of a block, by those who stand behind the chain
abbrev pub seen_words : LogGenesis → Bytes → Chain → Committed → Bytes
seen_words log org chain c = seen_at log org (orgs_behind log.genesis.rules.value chain) c.block.header.number (header_hash c.block)

-- the block of a chain whose number digits spell, if there is one
abbrev pub IsBlockOf : Chain → (digits : Bytes) → Option Committed → Type 0
IsBlockOf chain digits (Some c) = (number : ℕ) × IsDecimal digits number × (block_at chain number ≡ Some c)
IsBlockOf chain digits None = (number : ℕ) → IsDecimal digits number → block_at chain number ≡ None

abbrev pub seen_or_bad : LogGenesis → Bytes → Chain → Option Committed → Bytes
seen_or_bad log org chain (Some c) = seen_words log org chain c
seen_or_bad log org chain None = codes "bad"

-- of nobody's peer it is refused
abbrev pub IsSighted : LogGenesis → Option Bytes → Chain → (words said : Bytes) → Type 0
IsSighted log None chain words said = said ≡ codes "refused 806"
IsSighted log (Some org) chain words said =
    (asked : Option Committed) × IsBlockOf chain words asked × (said ≡ seen_or_bad log org chain asked)

-- ---- the line of the answer

abbrev pub Says : Peer → Chain → Request → (words said : Bytes) → Type 0
Says p chain (Call agreed) words said = IsCalled p.log.genesis p.org agreed chain words said
Says p chain Asked words said = IsAnswered p.keeps p.log.genesis chain words said
Says p chain Seen words said = IsSighted p.log p.org chain words said

-- the tag of who asks, how many blocks the chain has, and what is said
abbrev pub AnswersText : Peer → Chain → Request → (tag words text : Bytes) → Type 0
AnswersText p chain request tag words text =
    (said : Bytes) × Says p chain request words said
    × (text ≡ codes "answer " ++ (tag ++ (codes " " ++ (decimal (length chain) ++ (codes " " ++ (said ++ codes "\n"))))))
