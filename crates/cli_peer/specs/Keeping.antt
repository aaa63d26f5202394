-- What a peer leaves in its store.
use Rattle.std.specs.Prelude.{◌≡◌, ◌⊎◌, ◌++◌, Bool, true, List, Option, Some, Result, OnOk}
use Rattle.std.specs.List.{flat_map}
use Rattle.block_store.specs.Record.{record_bytes}
use Rattle.ledger_model.specs.Chain.{Bytes, Chain}
use Rattle.log_peer.specs.Holding.{Grows, HoldsRecords, KeepsRecords}
use Rattle.log_peer.specs.Peering.{file_of, held_by}
use Rattle.log_peer.specs.declared.peering.LogPeer.{LogPeer}
use Rattle.cli_lines.specs.Places.{FilesHeld, opened_bytes}
use Rattle.cli_lines.specs.Told.{Told}
use Rattle.peer_answers.specs.Answering.{Peer}
use Rattle.cli_peer.specs.Filters.{AreDone, BeginsSo, ComesTo}
use Rattle.cli_peer.specs.Input.{AreAll}
use Rattle.cli_peer.specs.Logged.{Reached}
use Rattle.cli_peer.specs.Opening.{ComesBehind, Opens, TellsUnopened}
use Rattle.cli_peer.specs.Peering.{DoesLine, LinesTo, opened}
use Rattle.cli_peer.specs.Running.{reached}
use Rattle.cli_peer.specs.declared.peering.Reader.{Reader}

-- ---- the chain that is reached

-- all lines of an input, which holds these bytes where that is known, lead a peer from here to there
abbrev pub LeadTo : Peer → Reached → (input : Option Bytes) → Reached → Type 0
LeadTo p old input new = (lines : List Bytes) × AreAll input lines × ((text : Bytes) × AreDone (DoesLine p) 1 old lines text new)

-- a peer reaches this chain by its store and its input, where it is known what these hold
abbrev pub Reaches : Peer → (held input : Option Bytes) → Chain → Type 0
Reaches p held input chain =
    Opens p.log.genesis.rules.value held (λ first cut. (new : Reached) × LeadTo p (opened p first) input new × (new.held.chain ≡ chain))

-- ---- what its file holds

-- the records of its chain and nothing else
abbrev pub HoldsChain : {D : Type 0} → (contents : D → Option Bytes) → LogPeer D → Type 0
HoldsChain contents peer = HoldsRecords (contents (file_of peer)) (held_by peer).chain

-- A peer reads, and its file keeps what it held. Where that was the records of the chain and nothing else, so it is then, if all was read
abbrev pub StoresOn : {D A E : Type 0} → (contents : D → Option Bytes) → (old new : LogPeer D) → Result A E → Type 0
StoresOn contents old new answer =
    Grows (contents (file_of old)) (contents (file_of new)) × (HoldsChain contents old → OnOk answer (HoldsChain contents new))

-- where it is known what is written, the whole records that a store held stand first in it
abbrev pub KeepsStore : (known : Bool) → (name : Bytes) → (before after : FilesHeld) → Type 0
KeepsStore known name before after = known ≡ true → KeepsRecords (before name) (after name)

-- where it is known what is written, the store has the records of the chain that the peer reached, and nothing else
abbrev pub HoldsReached : (known : Bool) → Peer → (name : Bytes) → (input : Option Bytes) → (before after : FilesHeld) → Type 0
HoldsReached known p name input before after =
    known ≡ true → (chain : Chain) × Reaches p (opened_bytes true (before name)) input chain × HoldsRecords (after name) chain

-- ---- what was told of it

-- the records of a chain stand first
abbrev pub StartsWith : (known : Option Bytes) → Chain → Type 0
StartsWith known chain = (more : Bytes) × (known ≡ Some (flat_map record_bytes chain ++ more))

-- A line was told so far: of what it comes to, and then a file that held the records of the peer's chain and nothing else does so again; or of why it
-- ends the peer
abbrev pub TellsLine : {D : Type 0} → (contents : D → Option Bytes) → (old new : LogPeer D) → (Does Ends : Bytes → Type 0) → (before after : Told) → Type 0
TellsLine contents old new Does Ends = BeginsSo (ComesTo (λ text. Does text × (HoldsChain contents old → HoldsChain contents new)) Ends)

-- some first lines come to this, and the records of the chain behind them stand first in the file, if it held those of the peer's chain and nothing else
abbrev pub TellsLines : {D : Type 0} → (contents : D → Option Bytes) → Peer → (old new : Reader D) → (input : Option Bytes) → Bytes → Type 0
TellsLines contents p old new input text =
    (last : Reached) × LinesTo p (reached old) input text last
    × (HoldsChain contents old.peer → StartsWith (contents (file_of new.peer)) last.held.chain)

-- What is printed of a store and of some first lines of the input: the store is opened, and what is left in it begins with the records of the chain to
-- which the lines lead; or why it is not opened
abbrev pub TellsStored : Peer → (held input left : Option Bytes) → Bytes → Type 0
TellsStored p held input left text =
    Opens p.log.genesis.rules.value held
    (λ first cut. ComesBehind first cut (λ rest. (last : Reached) × LinesTo p (opened p first) input rest last × StartsWith left last.held.chain) text)
    ⊎ TellsUnopened p.log.genesis.rules.value held text

-- Where it is known what is written, the store has each block of which something was printed, whatever the task comes to
abbrev pub KeepsTold : (known : Bool) → Peer → (name : Bytes) → (input : Option Bytes) → (held left : FilesHeld) → (before after : Told) → Type 0
KeepsTold known p name input held left before after =
    known ≡ true → BeginsSo (TellsStored p (opened_bytes true (held name)) input (left name)) before after
