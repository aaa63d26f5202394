-- What two peers of one log have in common.
use Rattle.std.specs.Prelude.{◌≡◌, ◌⊎◌, false, List, [], ◌∷◌, Option, Some, None, Ok}
use Rattle.std.specs.List.{flat_map}
use Rattle.std.specs.Str.Lossy.{utf8_lossy}
use Rattle.hex.specs.Hex.{decode_of}
use Rattle.json_questions.specs.Answers.{AsksBlocks}
use Rattle.json_questions.specs.Spelling.{SpellsQuestion}
use Rattle.json_questions.specs.declared.question.Question.{Question}
use Rattle.ledger_model.specs.Chain.{Bytes}
use Rattle.log_orderer.specs.Lines.{IsNoMark}
use Rattle.peer_answers.specs.Answering.{Peer}
use Rattle.peer_answers.specs.Lines.{Asks, Logs, Said, said_in}
use Rattle.peer_answers.specs.declared.line.Request.TheVariants as request

-- the text of a line of the log; none of any other line
abbrev pub logged_by : Option Said → List Bytes
logged_by (Some (Logs index text)) = text ∷ []
logged_by (Some (Asks request tag words)) = []
logged_by None = []

-- the texts of the lines of the log among these lines, in their order
abbrev pub logged_in : List Bytes → List Bytes
logged_in lines = flat_map (λ l. logged_by (said_in (utf8_lossy l))) lines

-- hex of bytes that spell no envelope
abbrev pub SpellsNoEnvelope : Bytes → Type 0
SpellsNoEnvelope text = IsNoMark text × ((bytes : Bytes) × (decode_of text ≡ Ok bytes))

-- a line of the log that is hex of bytes that spell no envelope
abbrev pub LogsNoEnvelope : Option Said → Type 0
LogsNoEnvelope (Some (Logs index text)) = SpellsNoEnvelope text
LogsNoEnvelope (Some (Asks request tag words)) = ⊥
LogsNoEnvelope None = ⊥

-- One text is printed of a line. But where it is a line of the log and hex of bytes that spell no envelope, the number of the fault may differ
abbrev pub AreAlike : (l text other : Bytes) → Type 0
AreAlike l text other = (text ≡ other) ⊎ LogsNoEnvelope (said_in (utf8_lossy l))

-- a line asks for blocks
abbrev pub AsksForBlocks : Option Said → Type 0
AsksForBlocks (Some (Asks request.Question tag words)) = (q : Question) × SpellsQuestion words q × AsksBlocks q
AsksForBlocks (Some (Asks (request.Call agreed) tag words)) = ⊥
AsksForBlocks (Some (Asks request.Seen tag words)) = ⊥
AsksForBlocks (Some (Logs index text)) = ⊥
AsksForBlocks None = ⊥

-- it does, and it is not known what the peer's file gives back
abbrev pub ReadsBack : Peer → (l : Bytes) → Type 0
ReadsBack p l = (p.keeps ≡ false) × AsksForBlocks (said_in (utf8_lossy l))
