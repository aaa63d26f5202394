-- A peer that runs.
use Rattle.std.specs.Prelude.{◌≡◌, Bool, Option}
use Rattle.ledger_model.specs.Chain.{Bytes}
use Rattle.log_peer.specs.Holding.{HoldsIfKnown}
use Rattle.log_peer.specs.Peering.{IsPeer, file_of, held_by, rules_of}
use Rattle.log_peer.specs.declared.peering.LogPeer.{LogPeer}
use Rattle.cli_peer.specs.Logged.{Reached}
use Rattle.peer_answers.specs.declared.log_genesis.LogGenesis.{LogGenesis}
use Rattle.cli_peer.specs.declared.peering.Reader.{Reader}

module _ {D : Type 0} where
  abbrev pub reached : Reader D → Reached
  reached r = record { held = held_by r.peer; begun = r.begun }

  -- it has the chain of its file, and the file the records of the chain, where it is known what files hold
  abbrev pub IsSound : (keeps : Bool) → (contents : D → Option Bytes) → LogPeer D → Type 0
  IsSound keeps contents peer = IsPeer peer × HoldsIfKnown keeps (contents (file_of peer)) (held_by peer).chain

  -- so it is, and it goes by the rules of this log
  abbrev pub IsReader : (keeps : Bool) → (contents : D → Option Bytes) → LogGenesis → Reader D → Type 0
  IsReader keeps contents log r = IsSound keeps contents r.peer × (rules_of r.peer ≡ log.genesis.rules.value)
