-- What a peer is asked to run by.
use Rattle.std.specs.Prelude.{Bool}
use Rattle.peer_answers.specs.Answering.{Peer}
use Rattle.peer_answers.specs.Setting.{org_of}
use Rattle.peer_answers.specs.declared.log_genesis.LogGenesis.{LogGenesis}
use Rattle.cli_peer.specs.declared.peering.Peering.{Peering}

abbrev pub asked_by : (keeps : Bool) → LogGenesis → Peering → Peer
asked_by keeps log asked = record { log = log; org = org_of asked.org; keeps = keeps }
