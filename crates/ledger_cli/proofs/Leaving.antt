-- Tasks that leave files as they were.
use Rattle.std.proofs.Common.{◌≡◌, ◌∷◌, ℕ, Bool, true, false, List, [], Option, Some, None, IfSome, Result, Ok, Err, OnErr, option_map, refl}
use Rattle.std.specs.Borrow.{Bor}
use Rattle.cli_lines.specs.Places.{ChangesOnly, FilesHeld}
use Rattle.cli_lines.specs.declared.failure.Failure.{Failure}
use Rattle.cli_lines.specs.declared.failure.Failure.TheVariants.{Printed}
use Rattle.cli_lines.proofs.Changes.{changes_none}
use Rattle.cli_words.specs.declared.task.Task.{Task}
use Rattle.cli_words.specs.declared.task.Task.TheVariants as task
use Rattle.cli_words.specs.declared.task.Work.{Work}
use Rattle.cli_words.specs.declared.task.Work.TheVariants as work
use Rattle.cli_lines.specs.Whole.{Stays, whole_names}
use Rattle.cli_session.specs.Stored.{WhereNoStore}
use Rattle.cli_peer.proofs.Checkpoints.{other_all}
use Rattle.cli_peer.proofs.Keeping.{keeps_all}
use Rattle.cli_session.proofs.Stored.{where_all}
use Rattle.ledger_cli.specs.Leaving.{Leaves, LeavesFiles, SparesStore}
use Rattle.ledger_cli.specs.Verdicts.{verdict_answer}

pub leaves_all : (known : Bool) (w : Work) (before after : FilesHeld) → after ≡ before → Leaves known w before after
leaves_all known (work.Run events None) before after same = same
leaves_all known (work.Run events (Some store)) before after same =
    (changes_none known (whole_names store.now) before after same, where_all known before store.now (after ≡ before) same)
leaves_all known (work.Peer org store) before after same =
    (changes_none known (store.now ∷ []) before after same, keeps_all known store.now before after same)
leaves_all known (work.Checkpoint store file) before after same =
    (changes_none known (whole_names file.now) before after same, other_all known before file.now (after ≡ before) same)
leaves_all known w before after same = same

-- a run leaves all files where it has no store, and else all but that, or all where no store begins there
pub leaves_run : (known : Bool) (events : Bor (List ℕ)) (store : Option (Bor (List ℕ))) (before after : FilesHeld) → (store ≡ None → after ≡ before) →
    IfSome store (λ s. ChangesOnly known (whole_names s.now) before after) → IfSome store (λ s. WhereNoStore known before s.now (after ≡ before)) →
    Leaves known (work.Run events store) before after
leaves_run known events None before after kept others spares = kept refl
leaves_run known events (Some store) before after kept others spares = (others, spares)

asked_stays : (known : Bool) (store : Option (Bor (List ℕ))) (before after : FilesHeld) → IfSome store (λ s. Stays known s.now before after) →
    IfSome (option_map (λ s. s.now) store) (λ name. Stays known name before after)
asked_stays known None before after stays = tt
asked_stays known (Some name) before after stays = stays

-- a run spares its store, by what it came to
pub spares_by : (known : Bool) (store : Option (Bor (List ℕ))) (before after : FilesHeld) (ended : Result Bool Failure) →
    OnErr ended (IfSome store (λ s. Stays known s.now before after)) →
    SparesStore known (option_map (λ s. s.now) store) before after (verdict_answer ended)
spares_by known store before after (Ok true) stays = tt
spares_by known store before after (Ok false) stays = tt
spares_by known store before after (Err Printed) stays = tt
spares_by known store before after (Err f) stays = asked_stays known store before after stays

-- so does a task
pub leaves_files : (known : Bool) (t : Task) (before after : FilesHeld) → after ≡ before → LeavesFiles known t before after
leaves_files known (task.Work b w) before after same = leaves_all known w before after same
leaves_files known t before after same = same
