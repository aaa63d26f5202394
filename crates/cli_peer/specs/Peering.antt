-- What `peer` does by its lines, and what is printed of them.
use Rattle.std.specs.Prelude.{◌≡◌, ◌⊎◌, ℕ, false, Option, Some, None, Result}
use Rattle.std.specs.Str.{IsUtf8}
use Rattle.std.specs.Str.Lossy.{utf8_lossy}
use Rattle.ledger_model.specs.Chain.{Bytes, Chain}
use Rattle.log_peer.specs.Peering.{fresh}
use Rattle.cli_lines.specs.Texts.{bad_line, line}
use Rattle.cli_lines.specs.declared.failure.Failure.{Failure}
use Rattle.peer_answers.specs.Answering.{AnswersText, Peer}
use Rattle.cli_peer.specs.Filters.{DoesOrEnds, Filters, FiltersBegin, FiltersTo}
use Rattle.peer_answers.specs.Lines.{Asks, Logs, Said, said_in}
use Rattle.cli_peer.specs.Logged.{EndsEntry, IsLogged, Reached}
use Rattle.cli_peer.specs.Opening.{ComesBehind, Opens, TellsUnopened}
use Rattle.peer_answers.specs.declared.line.Request.{Request}

-- ---- a line

-- of one that is none of a peer's, by its number
abbrev pub bad_text : ℕ → Bytes
bad_text number = line (bad_line number)

-- one that asks for something is answered by the chain; it is a bad one where it is no text
abbrev pub DoesAsked : Peer → (number : ℕ) → Chain → (l : Bytes) → Request → (tag words text : Bytes) → Type 0
DoesAsked p number chain l request tag words text =
    (IsUtf8 l × AnswersText p chain request tag words text) ⊎ (¬ (IsUtf8 l) × (text ≡ bad_text number))

-- one of the log changes what the peer has; any other changes nothing
abbrev pub DoesSaid : Peer → (number : ℕ) → Reached → (l : Bytes) → Option Said → (text : Bytes) → Reached → Type 0
DoesSaid p number old l (Some (Logs index said)) text new = IsLogged p.log old index said text new
DoesSaid p number old l (Some (Asks request tag words)) text new =
    DoesAsked p number old.held.chain l request tag words text × (new ≡ old)
DoesSaid p number old l None text new = (text ≡ bad_text number) × (new ≡ old)

-- bytes that are no UTF-8 are replaced by U+FFFD
abbrev pub DoesLine : Peer → ℕ → Reached → Bytes → Bytes → Reached → Type 0
DoesLine p number old l text new = DoesSaid p number old l (said_in (utf8_lossy l)) text new

-- a line of the log alone ends it
abbrev pub EndsSaid : Peer → Reached → Option Said → Bytes → Type 0
EndsSaid p old (Some (Logs index said)) text = EndsEntry p.log old said text
EndsSaid p old (Some (Asks request tag words)) text = ⊥
EndsSaid p old None text = ⊥

abbrev pub EndsLine : Peer → ℕ → Reached → Bytes → Bytes → Type 0
EndsLine p number old l text = EndsSaid p old (said_in (utf8_lossy l)) text

-- ---- the whole

-- a peer that has read nothing of the log, with the chain of its store
abbrev pub opened : Peer → Chain → Reached
opened p chain = record { held = record { log = fresh p.log.genesis; chain = chain }; begun = false }

-- what the lines come to, from where a peer is; what some first ones do, and where that leads
abbrev pub PeersLines : {A : Type 0} → Peer → Reached → Option Bytes → Result A Failure → Bytes → Type 0
PeersLines p = Filters (DoesLine p) (EndsLine p)

abbrev pub LinesTo : Peer → Reached → Option Bytes → Bytes → Reached → Type 0
LinesTo p = FiltersTo (DoesLine p) (EndsLine p)

abbrev pub LinesBegin : Peer → Reached → Option Bytes → Bytes → Type 0
LinesBegin p = FiltersBegin (DoesLine p) (EndsLine p)

-- What `peer` comes to by a store and by its input, where it is known what these hold
abbrev pub Peers : {A : Type 0} → Peer → (held input : Option Bytes) → Result A Failure → Bytes → Type 0
Peers p held input answer text =
    Opens p.log.genesis.rules.value held (λ chain cut. ComesBehind chain cut (PeersLines p (opened p chain) input answer) text)
    ⊎ DoesOrEnds (λ t. ⊥) (TellsUnopened p.log.genesis.rules.value held) answer text

-- and what it prints a beginning of, where it is broken off
abbrev pub PeersBegin : Peer → (held input : Option Bytes) → Bytes → Type 0
PeersBegin p held input text =
    Opens p.log.genesis.rules.value held (λ chain cut. ComesBehind chain cut (LinesBegin p (opened p chain) input) text)
    ⊎ TellsUnopened p.log.genesis.rules.value held text
