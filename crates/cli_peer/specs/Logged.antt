-- What a peer prints of a line of the log.
use Rattle.std.specs.Prelude.{◌≡◌, ◌⊎◌, ◌++◌, ℕ, [], Bool, true, false, Option, Some, None, codes}
use Rattle.std.specs.Fmt.{decimal}
use Rattle.std.specs.List.{flat_map}
use Rattle.std.specs.Option.{MatchOption}
use Rattle.hex.specs.Hex.{encode_lower}
use Rattle.ledger_model.specs.Chain.{Bytes, Chain}
use Rattle.ledger_setting.specs.Rule.{table_of}
use Rattle.log_orderer.specs.declared.replica.LineReport.{LineReport}
use Rattle.log_committer.specs.Committing.{block_at}
use Rattle.log_committer.specs.Peering.{Held, ReadsLine}
use Rattle.log_committer.specs.declared.receiving.Received.{Received}
use Rattle.log_committer.specs.declared.receiving.Received.TheVariants as received
use Rattle.log_peer.specs.Peering.{AreJoined, IsJoinedIn, IsNotRead, IsReportOf, told_by}
use Rattle.log_peer.specs.Refusals.{store_text}
use Rattle.log_peer.specs.declared.peering.PeerBatch.{PeerBatch}
use Rattle.log_peer.specs.declared.peering.PeerReport.{PeerReport}
use Rattle.log_peer.specs.declared.peering.PeerReport.TheVariants.{Accepted, Ticked, Skipped}
use Rattle.log_peer.specs.declared.refusal.StoreRefusal.{StoreRefusal}
use Rattle.cli_lines.specs.Texts.{line}
use Rattle.cli_peer.specs.Marks.{NamesAnotherIn}
use Rattle.cli_peer.specs.Printed.{aborted_text, joined_text, read_text, skipped_text}
use Rattle.peer_answers.specs.Seen.{IsSeen, IsUnsigned, Sighting, TellsFork}
use Rattle.peer_answers.specs.declared.log_genesis.LogGenesis.{LogGenesis}

-- what it has, and whether a line of the log was read
pub record Reached : Type 0 where
  pub held : Held
  pub begun : Bool

-- ---- what is told

-- of the block of a number, if there is one, by the chain that has it then
abbrev pub block_text : Chain → Option ℕ → Option Received → Bytes
block_text chain (Some number) (Some received.Committed) = joined_text number (block_at chain number)
block_text chain (Some number) (Some received.Known) = line (codes "known " ++ decimal number)
block_text chain number received = []

-- the block of a batch is handed out where it joined the chain, and stands there
abbrev pub IsHandedOut : Chain → PeerBatch → Type 0
IsHandedOut chain batch = AreJoined batch.received batch.joined × IsJoinedIn chain batch

-- of a batch: what it leaves out, and then its block
abbrev pub batch_text : Chain → PeerBatch → Bytes
batch_text chain batch = aborted_text batch ++ block_text chain batch.report.block batch.received

-- of a text by which an organisation says that it has a block: who signed is judged by the chain, others by what the lines of the log made
abbrev pub TellsSeen : LogGenesis → Held → (said : Bytes) → Option Sighting → Bytes → Type 0
TellsSeen log held said None text = text ≡ []
TellsSeen log held said (Some s) text =
    MatchOption s.signature (IsUnsigned log.genesis.rules.value held.log.chain s text)
    (λ _. TellsFork log.genesis.rules.value log.digest held.chain said text)

abbrev pub TellsText : LogGenesis → Held → (said text : Bytes) → Type 0
TellsText log held said text = (s : Option Sighting) × IsSeen said s × TellsSeen log held said s text

-- of a line of this index and this text, by what it came to
abbrev pub TellsReport : LogGenesis → Held → (index said : Bytes) → PeerReport → Bytes → Type 0
TellsReport log held index said (Accepted id batches) text = text ≡ flat_map (batch_text held.chain) batches
TellsReport log held index said (Ticked None) text = text ≡ []
TellsReport log held index said (Ticked (Some batch)) text = text ≡ batch_text held.chain batch
TellsReport log held index said (Skipped skip) text =
    (front : Bytes) × TellsText log held said front × (text ≡ front ++ skipped_text index skip)

-- and then that it was read
abbrev pub TellsEntry : LogGenesis → Held → (index said : Bytes) → PeerReport → Bytes → Type 0
TellsEntry log held index said told text = (front : Bytes) × TellsReport log held index said told front × (text ≡ front ++ read_text index held.log)

-- ---- the line

-- The line is read, and this is printed of it. The first line of the log names no other genesis
pub record IsLogged (log : LogGenesis) (old : Reached) (index said text : Bytes) (new : Reached) : Type 0 where
  pub report : LineReport
  pub told : PeerReport
  pub is : IsReportOf report told
  pub reads : ReadsLine (table_of log.genesis.rules.value) old.held said report (told_by told) new.held
  pub tells : TellsEntry log new.held index said told text
  pub first : old.begun ≡ false → ¬ (NamesAnotherIn (encode_lower log.digest) said)
  pub begun : new.begun ≡ true

-- the first line of the log names another genesis, which ends it
abbrev pub EndsByGenesis : LogGenesis → Reached → (said text : Bytes) → Type 0
EndsByGenesis log old said text = (old.begun ≡ false) × NamesAnotherIn (encode_lower log.digest) said × (text ≡ codes "refused 807\n")

-- the line is not read, and that is why
abbrev pub EndsUnread : Reached → (said text : Bytes) → Type 0
EndsUnread old said text = (cause : StoreRefusal) × IsNotRead old.held said cause × (text ≡ line (store_text cause))

abbrev pub EndsEntry : LogGenesis → Reached → (said text : Bytes) → Type 0
EndsEntry log old said text = EndsByGenesis log old said text ⊎ EndsUnread old said text
