-- The world that a system's fields stand for, and what is true of them.
use Rattle.std.specs.Prelude.{◌≡◌, ℕ, List, Option, Some, None, map, option_map, length}
use Rattle.std.specs.List.{AllByRecursion}
use Rattle.fab_types.specs.declared.block.Block.{Block}
use Rattle.orderer.specs.Ordering.{Ordering}
use Rattle.ledger_model.specs.Chain.{Envelope, Chain}
use Rattle.ledger_model.specs.Execution.{Exec}
use Rattle.chaincode_book.specs.Books.{Book}
use Rattle.org_keys.specs.Signers.{Seeds}
use Rattle.endorsement_policy.specs.Endorsed.{Listed, seal_of}
use Rattle.ledger_setting.specs.Rule.{table_of}
use Rattle.simulator.specs.Execution.{exec_of}
use Rattle.fabric_core.specs.System.{Rules, Event, Reply, Noted, PeerState, World, IsStep, chain_of_first}
use Rattle.fabric_core.specs.declared.peer.Begun.{Begun}
use Rattle.fabric_core.specs.declared.peer.Peer.{Peer}

-- what a system is seen as
pub record State : Type 0 where
  pub book : Book
  pub rules : Listed
  pub seeds : Seeds
  pub capacity : ℕ
  pub world : World

-- the rules with these chaincodes, what is listed, these seeds at hand, and this queue
abbrev pub rules_of : Exec → Listed → Seeds → ℕ → Rules
rules_of exec listed seeds capacity =
    record { edition = listed.edition; exec = exec; rule = table_of listed; seal = seal_of listed seeds; capacity = capacity }

-- a call takes a step of the abstract world: with this event, and this reply
abbrev pub TakesStep : (old new : State) → Event → Reply → Type 0
TakesStep old new event reply = IsStep (rules_of (exec_of old.book) old.rules old.seeds old.capacity) old.world event reply new.world

-- what every call keeps: the chaincodes, the organisations and policies, the seeds, and the queue's capacity
abbrev pub KeepsRules : (old new : State) → Type 0
KeepsRules old new = (new.book ≡ old.book) × (new.rules ≡ old.rules) × (new.seeds ≡ old.seeds) × (new.capacity ≡ old.capacity)

abbrev pub noted : Begun → Noted
noted b = record { proposal = b.proposal; height = length b.snapshot.value }

abbrev pub seats_of : List (Option Begun) → List (Option Noted)
seats_of seats = map (option_map noted) seats

abbrev pub peer_of : Peer → PeerState
peer_of p = record { org = p.org; height = length p.snapshot.value; seats = seats_of p.seats.items }

abbrev pub world_of : List Peer → List Envelope → Ordering → World
world_of peers queue orderer = record { peers = map peer_of peers; queue = queue; orderer = orderer }

-- a chain is the first blocks, where `chain n` is the first n
abbrev pub IsFirst : (ℕ → Chain) → Chain → Type 0
IsFirst chain c = c ≡ chain (length c)

abbrev pub IsSeatRight : (ℕ → Chain) → Option Begun → Type 0
IsSeatRight chain None = Unit {0}
IsSeatRight chain (Some b) = IsFirst chain b.snapshot.value

-- each snapshot that a peer keeps is of the first blocks
pub record IsPeerRight (chain : ℕ → Chain) (p : Peer) : Type 0 where
  pub kept : IsFirst chain p.snapshot.value
  pub seats : AllByRecursion (IsSeatRight chain) p.seats.items

-- so it is with all peers
abbrev pub IsRight : Listed → List Peer → List Block → Type 0
IsRight listed peers blocks = AllByRecursion (IsPeerRight (chain_of_first (table_of listed) blocks)) peers
