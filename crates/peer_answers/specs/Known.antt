-- Answers that are known before their lines are done.
use Rattle.std.specs.Prelude.{Option, Some, None}
use Rattle.std.specs.Str.Lossy.{utf8_lossy}
use Rattle.ledger_model.specs.Chain.{Bytes, Chain}
use Rattle.peer_answers.specs.Answering.{Peer, Says}
use Rattle.peer_answers.specs.Lines.{Asks, Said, said_in}
use Rattle.peer_answers.specs.Spoken.{answer_text}
use Rattle.peer_answers.specs.declared.answer.Answer.{Answer}

-- a line asks for something, and this answer is given to it by the chain
abbrev pub IsAnswerTo : Peer → Chain → Option Said → Answer → Type 0
IsAnswerTo p chain (Some (Asks request tag words)) answer = Says p chain request words (answer_text answer)
IsAnswerTo p chain said answer = ⊥

-- what is known of the answer to a line, if anything
abbrev pub IsKnown : Peer → Chain → (l : Bytes) → Option Answer → Type 0
IsKnown p chain l None = Unit {0}
IsKnown p chain l (Some answer) = IsAnswerTo p chain (said_in (utf8_lossy l)) answer
