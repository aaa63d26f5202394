-- A peer of a log: what is told of a line, and why a line is not read.
use Rattle.std.specs.Prelude.{◌≡◌, ℕ, List, [], Option, Some, None, IfSome, IsSome}
use Rattle.std.specs.List.{flat_map, AllByRecursion, AllZip}
use Rattle.std.specs.Option.{option_to_list}
use Rattle.fab_types.specs.declared.block.Block.{Block}
use Rattle.endorsement_policy.specs.Endorsed.{Listed}
use Rattle.ledger_model.specs.Chain.{Bytes, Chain, Committed}
use Rattle.ledger_model.specs.Judged.{BlockRule}
use Rattle.ledger_setting.specs.Limits.{limits_of}
use Rattle.ledger_setting.specs.declared.genesis.Genesis.{Genesis}
use Rattle.orderer.specs.Making.{number_in}
use Rattle.orderer.specs.Ordering.{Ordering}
use Rattle.log_orderer.specs.Log.{Reads}
use Rattle.log_orderer.specs.Reported.{answer_of}
use Rattle.log_orderer.specs.declared.batch.LogBatch.{LogBatch}
use Rattle.log_orderer.specs.declared.replica.LineReport.{LineReport}
use Rattle.log_orderer.specs.declared.replica.LineReport.TheVariants as line
use Rattle.log_committer.specs.Peering.{AreCutShort, HasEach, Held, IsRefusedFor}
use Rattle.log_committer.specs.Committing.{block_at}
use Rattle.log_committer.specs.declared.receiving.Received.{Received}
use Rattle.log_committer.specs.declared.receiving.Received.TheVariants as received
use Rattle.log_peer.specs.Storing.{IsStored, file_of as chain_file, rules_of as chain_rules, stored_chain}
use Rattle.log_peer.specs.declared.peering.LogPeer.{LogPeer}
use Rattle.log_peer.specs.declared.peering.PeerBatch.{PeerBatch}
use Rattle.log_peer.specs.declared.peering.PeerReport.{PeerReport}
use Rattle.log_peer.specs.declared.peering.PeerReport.TheVariants as peer
use Rattle.log_peer.specs.declared.refusal.StoreRefusal.{StoreRefusal}
use Rattle.log_peer.specs.declared.refusal.StoreRefusal.TheVariants as refused

-- ---- what is told of a line

-- there is a block and what it came to, or neither
abbrev pub IsOfBlock : Option Block → Option Received → Type 0
IsOfBlock None None = Unit {0}
IsOfBlock (Some block) (Some received) = Unit {0}
IsOfBlock None (Some received) = ⊥
IsOfBlock (Some block) None = ⊥

-- a block joined the chain exactly where one was committed
abbrev pub AreJoined : Option Received → Option Committed → Type 0
AreJoined None joined = joined ≡ None
AreJoined (Some received.Known) joined = joined ≡ None
AreJoined (Some received.Committed) joined = IsSome joined

-- a batch, with what its block came to in the block's place
abbrev pub IsBatchOf : LogBatch → PeerBatch → Type 0
IsBatchOf batch told =
    (told.report ≡ batch.report) × (told.aborted ≡ batch.aborted) × IsOfBlock batch.block told.received × AreJoined told.received told.joined

-- each batch is reported with the number of its block
abbrev pub HaveNumbers : List LogBatch → Type 0
HaveNumbers batches = AllByRecursion (λ batch. batch.report.block ≡ number_in batch.block) batches

-- a block that joined the chain stands there at the number
abbrev pub IsJoinedAt : Chain → Option ℕ → Option Committed → Type 0
IsJoinedAt chain number joined = IfSome joined (λ c. IfSome number (λ n. block_at chain n ≡ Some c))

abbrev pub IsJoinedIn : Chain → PeerBatch → Type 0
IsJoinedIn chain told = IsJoinedAt chain told.report.block told.joined

-- the batches that are told
abbrev pub batches_in : PeerReport → List PeerBatch
batches_in (peer.Accepted id batches) = batches
batches_in (peer.Ticked batch) = option_to_list batch
batches_in (peer.Skipped skip) = []

-- what the blocks of batches came to, in turn
abbrev pub told_of : List PeerBatch → List Received
told_of batches = flat_map (λ batch. option_to_list batch.received) batches

abbrev pub told_by : PeerReport → List Received
told_by (peer.Accepted id batches) = told_of batches
told_by (peer.Ticked batch) = told_of (option_to_list batch)
told_by (peer.Skipped skip) = []

-- the report of a line, with what its blocks came to in their places
abbrev pub IsReportOf : LineReport → PeerReport → Type 0
IsReportOf (line.Accepted id batches) (peer.Accepted told others) = (told ≡ id) × AllZip IsBatchOf batches others
IsReportOf (line.Ticked batch) (peer.Ticked told) = AllZip IsBatchOf (option_to_list batch) (option_to_list told)
IsReportOf (line.Skipped skip) (peer.Skipped told) = told ≡ skip
IsReportOf (line.Accepted id batches) (peer.Ticked told) = ⊥
IsReportOf (line.Accepted id batches) (peer.Skipped told) = ⊥
IsReportOf (line.Ticked batch) (peer.Accepted told others) = ⊥
IsReportOf (line.Ticked batch) (peer.Skipped told) = ⊥
IsReportOf (line.Skipped skip) (peer.Accepted told others) = ⊥
IsReportOf (line.Skipped skip) (peer.Ticked told) = ⊥

-- ---- why a line is not read

-- one of these blocks, which come one after another, is refused behind others that are received; or the machine failed
abbrev pub AreNotReceived : BlockRule → Chain → List Block → StoreRefusal → Type 0
AreNotReceived rule old blocks (refused.Received cause) = AreCutShort rule old blocks cause
AreNotReceived rule old blocks refused.Memory = Unit {0}
AreNotReceived rule old blocks refused.File = Unit {0}
AreNotReceived rule old blocks (refused.Damaged number) = ⊥
AreNotReceived rule old blocks (refused.Stored cause) = ⊥

-- A line is not read: it makes another block of a number than the chain has; or the machine failed
abbrev pub IsNotRead : Held → Bytes → StoreRefusal → Type 0
IsNotRead old text (refused.Received cause) =
    (report : LineReport) × (log : Ordering) × Reads old.log text (answer_of report) log × IsRefusedFor log.chain old.chain cause
IsNotRead old text refused.Memory = Unit {0}
IsNotRead old text refused.File = Unit {0}
IsNotRead old text (refused.Damaged number) = ⊥
IsNotRead old text (refused.Stored cause) = ⊥

-- who has read nothing of a log, by a genesis
abbrev pub fresh : Genesis → Ordering
fresh g = record { edition = g.rules.value.edition; reorder = g.reorder; limits = limits_of g; pending = []; chain = [] }

module _ {D : Type 0} where
  abbrev pub held_by : LogPeer D → Held
  held_by p = record { log = p.replica; chain = stored_chain p.chain }

  abbrev pub rules_of : LogPeer D → Listed
  rules_of p = chain_rules p.chain

  -- the file of its store
  abbrev pub file_of : LogPeer D → D
  file_of p = chain_file p.chain

  -- its file has its chain, and the chain each block that the lines made
  abbrev pub IsPeer : LogPeer D → Type 0
  IsPeer p = IsStored p.chain × HasEach (held_by p).log.chain (held_by p).chain
