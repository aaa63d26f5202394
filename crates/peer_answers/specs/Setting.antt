-- What a peer answers by.
use Rattle.std.specs.Prelude.{Bool, Option, option_map}
use Rattle.std.specs.Borrow.{Bor}
use Rattle.ledger_model.specs.Chain.{Bytes}
use Rattle.peer_answers.specs.Answering.{Peer}
use Rattle.peer_answers.specs.declared.answering.Answering.{Answering}

abbrev pub org_of : Option (Bor Bytes) → Option Bytes
org_of = option_map (λ org. org.now)

-- with whether its file gives back what it was given
abbrev pub peer_of : (keeps : Bool) → Answering → Peer
peer_of keeps a = record { log = a.log.now; org = org_of a.org; keeps = keeps }
