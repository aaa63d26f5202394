-- What a line says, as it is read.
use Rattle.std.specs.Prelude.{Option}
use Rattle.ledger_model.specs.Chain.{Bytes}
use Rattle.peer_answers.specs.Lines.{Asks, Logs, Said, asks_by, request_of}
use Rattle.peer_answers.specs.Parts.{behind_first, first_word}
use Rattle.peer_answers.specs.Words.{split_at_space}
use Rattle.peer_answers.specs.declared.line.Line.{Line}
use Rattle.peer_answers.specs.declared.line.Line.TheVariants.{Log, Ask}

abbrev pub said_of : Line → Said
said_of (Log entry) = Logs entry.index.now entry.text.now
said_of (Ask asked) = Asks asked.request asked.tag.now asked.words.now

-- of a text that is no line of the log
abbrev pub asks_in : Bytes → Option Said
asks_in text = asks_by (request_of (first_word text)) (split_at_space (behind_first text))
