-- `checkpoint`.
use Rattle.std.specs.Prelude.{◌≡◌, ◌⊎◌, ◌++◌, ℕ, Bool, true, [], Option, IfSome, Result, Ok, Err, codes, length, string_bytes, take}
use Rattle.std.specs.Fmt.{decimal}
use Rattle.hex.specs.Hex.{encode_lower}
use Rattle.sha2.specs.Sha256.{sha256}
use Rattle.checkpoint.specs.Checkpoint.{IsCheckpointOf, form_bytes}
use Rattle.ledger_model.specs.Chain.{Bytes, Chain}
use Rattle.cli_lines.specs.Places.{FilesHeld}
use Rattle.cli_lines.specs.Whole.{HoldsSo, PlacesSo, Stays}
use Rattle.cli_lines.specs.declared.failure.Failure.{Failure}
use Rattle.cli_lines.specs.declared.failure.Failure.TheVariants as failure
use Rattle.cli_lines.specs.declared.files.Target.{Target}
use Rattle.cli_lines.specs.declared.files.Target.TheVariants.{File, NewFile, Device}
use Rattle.peer_answers.specs.declared.log_genesis.LogGenesis.{LogGenesis}
use Rattle.cli_peer.specs.Filters.{DoesOrEnds}
use Rattle.cli_peer.specs.Opening.{Opens, TellsUnopened}

-- a checkpoint of a chain, by a genesis file of this digest, which ends with a digest of its own: the SHA-256 of all before it
abbrev pub IsWritten : (genesis : Bytes) → Chain → (digest bytes : Bytes) → Type 0
IsWritten genesis chain digest bytes = (body : Bytes) × IsCheckpointOf genesis bytes chain × (digest ≡ sha256 body) × (bytes ≡ body ++ digest)

-- the line of a checkpoint: the height of its chain, and its digest
abbrev pub checkpoint_text : (height : ℕ) → (digest : Bytes) → Bytes
checkpoint_text height digest = codes "checkpoint " ++ (decimal height ++ (codes " " ++ (encode_lower digest ++ codes "\n")))

-- a line tells of a checkpoint of a chain, which a file has, where it is known what is written
abbrev pub TellsCheckpoint : (genesis : Bytes) → (known : Bool) → (after : Option Bytes) → Chain → Bytes → Type 0
TellsCheckpoint genesis known after chain text =
    (digest : Bytes) × HoldsSo known after (IsWritten genesis chain digest) × (text ≡ checkpoint_text (length chain) digest)

-- the same of a place
abbrev pub TellsPlaced : (genesis : Bytes) → (known : Bool) → (after : FilesHeld) → Target → Chain → Bytes → Type 0
TellsPlaced genesis known after target chain text =
    (digest : Bytes) × PlacesSo known after target (IsWritten genesis chain digest) × (text ≡ checkpoint_text (length chain) digest)

-- `checkpoint`, by what a store holds, and what the file has behind it: the store is opened, and the line tells of a checkpoint of its chain; or it says
-- why the store is not opened
abbrev pub Checkpoints : LogGenesis → (known : Bool) → (held after : Option Bytes) → Result (Unit {0}) Failure → Bytes → Type 0
Checkpoints log known held after answer text =
    DoesOrEnds (λ t. Opens log.genesis.rules.value held (λ chain cut. TellsCheckpoint log.digest known after chain t))
    (TellsUnopened log.genesis.rules.value held) answer text

-- ---- which files it leaves

-- a file stays, or it has a checkpoint of the chain of a store
abbrev pub StaysOrHolds : LogGenesis → (known : Bool) → (store file : Bytes) → (before after : FilesHeld) → Type 0
StaysOrHolds log known store file before after =
    Stays known file before after
    ⊎ Opens log.genesis.rules.value (before store) (λ chain cut. (digest : Bytes) × HoldsSo known (after file) (IsWritten log.digest chain digest))

-- where the store is refused, all files stay; where it is broken off, its own file does, or is a checkpoint already
abbrev pub SparesFile : LogGenesis → (known : Bool) → (store file : Bytes) → (before after : FilesHeld) → Result (Unit {0}) Failure → Type 0
SparesFile log known store file before after (Ok done) = Unit {0}
SparesFile log known store file before after (Err failure.Printed) = after ≡ before
SparesFile log known store file before after (Err f) = StaysOrHolds log known store file before after

-- ---- what stands where a checkpoint is to be written

-- nothing, or the first bytes of one
abbrev pub BeginsCheckpoint : Bytes → Type 0
BeginsCheckpoint held = (held ≡ []) ⊎ (take 8 held ≡ form_bytes)

-- so it is where the file of this name holds anything else
abbrev pub WhereOther : (known : Bool) → (bytes : FilesHeld) → (name : Bytes) → Type 0 → Type 0
WhereOther known bytes name P = known ≡ true → IfSome (bytes name) (λ held. ¬ (BeginsCheckpoint held) → P)

-- the file that is there, if one is, is a checkpoint's or empty
abbrev pub HasCheckpoint : (bytes : FilesHeld) → (place : Target) → Type 0
HasCheckpoint bytes (File path) = IfSome (bytes (string_bytes path)) BeginsCheckpoint
HasCheckpoint bytes (NewFile path) = Unit {0}
HasCheckpoint bytes (Device path) = Unit {0}
