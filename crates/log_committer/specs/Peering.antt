-- What a peer of a log has, and what becomes of a line of the log on it.
use Rattle.std.specs.Prelude.{◌≡◌, ◌≢◌, ◌≤◌, ℕ, List, [], ◌∷◌, ◌++◌, Some, Err, length}
use Rattle.fab_types.specs.declared.block.Block.{Block}
use Rattle.wire.specs.Links.{AreLinked}
use Rattle.committer.specs.declared.refusal.CommitRefusal.TheVariants.{Memory}
use Rattle.ledger_model.specs.Chain.{Bytes, Chain}
use Rattle.ledger_model.specs.Judged.{BlockRule}
use Rattle.orderer.specs.Ordering.{Ordering}
use Rattle.log_orderer.specs.Handed.{HandsOut, batches_of, blocks_of}
use Rattle.orderer.specs.Headers.{hash_at}
use Rattle.log_orderer.specs.Log.{Reads}
use Rattle.log_orderer.specs.Reported.{IsTrueOf, answer_of}
use Rattle.log_orderer.specs.Told.{TellsIds}
use Rattle.log_orderer.specs.declared.replica.LineReport.{LineReport}
use Rattle.log_committer.specs.Committing.{Receives, ReceivesAll, header_hash, own_hash}
use Rattle.log_committer.specs.declared.receiving.Received.{Received}
use Rattle.log_committer.specs.declared.refusal.ReceiveRefusal.{ReceiveRefusal}
use Rattle.log_committer.specs.declared.refusal.ReceiveRefusal.TheVariants.{Forked, Unfit}

-- what the lines of the log made, and the blocks of the store with their flags
pub record Held : Type 0 where
  pub log : Ordering
  pub chain : Chain

-- the blocks that a line makes
abbrev pub made_by : LineReport → List Block
made_by report = blocks_of (batches_of report)

-- a line is read: the replica takes its mark or skips it, and each block that this makes is received
pub record ReadsLine (rule : BlockRule) (old : Held) (text : Bytes) (report : LineReport) (told : List Received) (new : Held) : Type 0 where
  pub reads : Reads old.log text (answer_of report) new.log
  pub ids : TellsIds report old.log text
  pub blocks : HandsOut report old.log.chain new.log.chain
  pub why : IsTrueOf report old.log text
  pub received : ReceivesAll rule old.chain (made_by report) told new.chain

-- ---- what the lines made, the chain has

-- each of these blocks has the header hash of the chain's block at its place
abbrev pub BeginsAs : List Block → Chain → Type 0
BeginsAs [] chain = Unit {0}
BeginsAs (block ∷ log) [] = ⊥
BeginsAs (block ∷ log) (own ∷ chain) = (header_hash block ≡ header_hash own.block) × BeginsAs log chain

-- the blocks that the lines made are linked and numbered, and the chain has each of them
pub record HasEach (log : List Block) (chain : Chain) : Type 0 where
  pub linked : AreLinked [] log
  pub few : length log ≤ 4000000000
  pub same : BeginsAs log chain

-- ---- why a line is not read

-- of these blocks, which come one after another, this refusal is of one behind others that are received
pub record AreCutShort (rule : BlockRule) (old : Chain) (blocks : List Block) (cause : ReceiveRefusal) : Type 0 where
  pub front : List Block
  pub block : Block
  pub back : List Block
  pub parts : blocks ≡ front ++ block ∷ back
  pub told : List Received
  pub between : Chain
  pub received : ReceivesAll rule old front told between
  pub refused : Receives rule between block (Err cause) between

-- the lines made another block of this number than the chain has
pub record IsOtherLog (log : List Block) (chain : Chain) (number : ℕ) : Type 0 where
  pub made : Bytes
  pub made_at : hash_at log number ≡ Some made
  pub own : Bytes
  pub own_at : own_hash chain number ≡ Some own
  pub differ : own ≢ made

-- so it is where a block of the log is refused, but for want of memory
abbrev pub IsRefusedFor : List Block → Chain → ReceiveRefusal → Type 0
IsRefusedFor log chain (Forked number) = IsOtherLog log chain number
IsRefusedFor log chain (Unfit cause) = cause ≡ Memory
