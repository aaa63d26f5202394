-- The lines that a peer reads.
use Rattle.std.specs.Prelude.{true, false, Option, Some, None, bytes_eq, codes, if◌then◌else◌}
use Rattle.ledger_model.specs.Chain.{Bytes}
use Rattle.peer_answers.specs.Parts.{behind_first, first_word}
use Rattle.peer_answers.specs.Words.{behind, split_at_space}
use Rattle.peer_answers.specs.declared.line.Request.{Request}
use Rattle.peer_answers.specs.declared.line.Request.TheVariants.{Call, Question, Seen}

-- what a line says: the next line of the log, by its index and its text; or what is asked for, by a tag of who asks, and in which words
pub data Said : Type 0 where
  Logs : (index text : Bytes) → Said
  Asks : Request → (tag words : Bytes) → Said

-- what the first word of a line asks for
abbrev pub request_of : Bytes → Option Request
request_of word =
    if bytes_eq word (codes "call") then Some (Call false)
    else (if bytes_eq word (codes "agreed") then Some (Call true)
    else (if bytes_eq word (codes "ask") then Some Question
    else (if bytes_eq word (codes "seen") then Some Seen else None)))

-- `call`, `agreed`, `ask` or `seen`, a tag, and the words, each behind a space
abbrev pub asks_by : Option Request → Option (Bytes × Bytes) → Option Said
asks_by (Some request) (Some parts) = Some (Asks request parts.0 parts.1)
asks_by request parts = None

-- `log`, an index, and the text, each behind a space
abbrev pub says_by : Option Bytes → Option Said → Option Said
says_by (Some entry) asks = Some (Logs (first_word entry) (behind_first entry))
says_by None asks = asks

-- what a text says; None where it is no such line
abbrev pub said_in : Bytes → Option Said
said_in text = says_by (behind (codes "log") text) (asks_by (request_of (first_word text)) (split_at_space (behind_first text)))
