-- Which files tasks leave as they were.
use Rattle.std.specs.Prelude.{◌≡◌, ◌⊎◌, ℕ, Bool, List, [], ◌∷◌, Option, Some, IfSome, Result, Ok, Err}
use Rattle.cli_lines.specs.Places.{ChangesOnly, FilesHeld}
use Rattle.cli_lines.specs.declared.failure.Failure.{Failure}
use Rattle.cli_lines.specs.declared.failure.Failure.TheVariants.{Printed}
use Rattle.cli_words.specs.Words.{IsTaskOf}
use Rattle.cli_words.specs.declared.task.Task.{Task}
use Rattle.cli_words.specs.declared.task.Task.TheVariants as task
use Rattle.cli_words.specs.declared.task.Work.{Work}
use Rattle.cli_words.specs.declared.task.Work.TheVariants as work
use Rattle.cli_peer.specs.Checkpoints.{WhereOther}
use Rattle.cli_peer.specs.Keeping.{KeepsStore}
use Rattle.cli_lines.specs.Whole.{Stays, whole_names}
use Rattle.cli_session.specs.Stored.{WhereNoStore}

-- All of them; where a store or a checkpoint is written, all but that, if it is known what is written. A run leaves that too, where it holds bytes with
-- which no store begins, and so does `checkpoint` where it holds anything but a checkpoint. A peer's store keeps the whole records that it held
abbrev pub Leaves : (known : Bool) → Work → (before after : FilesHeld) → Type 0
Leaves known (work.Run events (Some store)) before after =
    ChangesOnly known (whole_names store.now) before after × WhereNoStore known before store.now (after ≡ before)
Leaves known (work.Peer org store) before after = ChangesOnly known (store.now ∷ []) before after × KeepsStore known store.now before after
Leaves known (work.Checkpoint store file) before after =
    ChangesOnly known (whole_names file.now) before after × WhereOther known before file.now (after ≡ before)
Leaves known w before after = after ≡ before

-- A run that is refused, or broken off, leaves the store as it was. One that tells what is wrong with its chain has written it
abbrev pub SparesStore : (known : Bool) → (store : Option (List ℕ)) → (before after : FilesHeld) → Result (Unit {0}) Failure → Type 0
SparesStore known store before after (Ok done) = Unit {0}
SparesStore known store before after (Err Printed) = Unit {0}
SparesStore known store before after (Err f) = IfSome store (λ name. Stays known name before after)

abbrev pub LeavesFiles : (known : Bool) → Task → (before after : FilesHeld) → Type 0
LeavesFiles known (task.Work b w) before after = Leaves known w before after
LeavesFiles known t before after = after ≡ before

-- the task that words name; where they name none, all files stay
abbrev pub KeepsFiles : (known : Bool) → List (List ℕ) → (before after : FilesHeld) → Type 0
KeepsFiles known ws before after = ((t : Task) × IsTaskOf ws t × LeavesFiles known t before after) ⊎ (after ≡ before)
