-- What the program's tasks come to.
use Rattle.std.specs.Prelude.{◌≡◌, ◌⊎◌, ℕ, Bool, List, OnOk, Option, Result, Err, option_map}
use Rattle.ledger_setting.specs.declared.genesis.Genesis.{Genesis}
use Rattle.cli_lines.specs.Places.{FilesHeld, opened_bytes}
use Rattle.cli_lines.specs.Told.{Told, Answers, Begins, IsTextOf}
use Rattle.cli_lines.specs.declared.failure.Failure.{Failure}
use Rattle.cli_words.specs.declared.task.Beginning.{Beginning}
use Rattle.cli_words.specs.declared.task.StatePart.{StatePart}
use Rattle.cli_words.specs.declared.task.StatePart.TheVariants as asked
use Rattle.cli_words.specs.declared.task.Task.{Task}
use Rattle.cli_words.specs.declared.task.Task.TheVariants as task
use Rattle.cli_words.specs.declared.task.Work.{Work}
use Rattle.cli_words.specs.declared.task.Work.TheVariants as work
use Rattle.peer_answers.specs.declared.log_genesis.LogGenesis.{LogGenesis}
use Rattle.peer_answers.specs.Answering.{Peer}
use Rattle.cli_peer.specs.Keeping.{HoldsReached, KeepsTold}
use Rattle.cli_peer.specs.Peering.{Peers, PeersBegin}
use Rattle.cli_peer.specs.Checkpoints.{Checkpoints, SparesFile}
use Rattle.cli_show.specs.Modules.{Checks, Digests}
use Rattle.cli_show.specs.Simulations.{Simulates}
use Rattle.cli_show.specs.declared.showing.Part.{Part}
use Rattle.cli_show.specs.declared.showing.Part.TheVariants as part
use Rattle.cli_show.specs.Findings.{Audits, ShowBegins, Shows}
use Rattle.cli_show.specs.Answers.{StateBegins, States}
use Rattle.cli_show.specs.Tracing.{TraceBegins, Traces}
use Rattle.cli_show.specs.Marks.{Marks}
use Rattle.cli_show.specs.Version.{Versions}
use Rattle.cli_session.specs.Stored.{HoldsAsked}
use Rattle.cli_session.specs.Whole.{ComesTo, RunBegins}
use Rattle.ledger_cli.specs.Keys.{Publishes}
use Rattle.ledger_cli.specs.Leaving.{SparesStore}
use Rattle.ledger_cli.specs.Opening.{Opens, NotOpens}
use Rattle.ledger_cli.specs.Seats.{RunsSeats}
use Rattle.ledger_cli.specs.Verdicts.{verdict_answer}

-- what is known of the files round a task: whether it is known what is written, what they hold before it and behind it, and the input
pub record KnownFiles : Type 0 where
  pub writes : Bool
  pub before : FilesHeld
  pub after : FilesHeld
  pub input : Option (List ℕ)

abbrev pub known_files : Bool → (before after : FilesHeld) → (input : Option (List ℕ)) → KnownFiles
known_files writes before after input = record { writes = writes; before = before; after = after; input = input }

-- `run`: what the lines of its events come to, and what the store then holds
abbrev pub Runs : Genesis → KnownFiles → (events : List ℕ) → (store : Option (List ℕ)) → Result (Unit {0}) Failure → List ℕ → Type 0
Runs g k events store answer text =
    (ended : Result Bool Failure) × (answer ≡ verdict_answer ended) × ComesTo g (k.before events) (HoldsAsked k.writes k.after store) ended text

-- what of a state is asked for, in the words of `state`
abbrev pub IsPart : StatePart → Part → Type 0
IsPart asked.Entries p = p ≡ part.Entries
IsPart (asked.Writes key) part.Entries = ⊥
IsPart (asked.Writes key) (part.Writes k) = k.now ≡ key
IsPart (asked.Writes key) part.Members = ⊥
IsPart asked.Members p = p ≡ part.Members

-- A task comes to its answer and to the text that was printed; or it is broken off, behind a beginning of a text of which `Whole` is so
abbrev pub Does : (Comes : Result (Unit {0}) Failure → List ℕ → Type 0) → (Whole : List ℕ → Type 0) → (before after : Told) → Result (Unit {0}) Failure
    → Type 0
Does Comes Whole before after answer = Answers Comes before after answer × Begins Whole before after answer

-- the same of a task that knows its whole text before it prints
abbrev pub DoesAll : (Comes : Result (Unit {0}) Failure → List ℕ → Type 0) → (before after : Told) → Result (Unit {0}) Failure → Type 0
DoesAll Comes = Does Comes (IsTextOf Comes)

-- what is asked for of a genesis is done
abbrev pub Works : LogGenesis → Work → KnownFiles → (before after : Told) → Result (Unit {0}) Failure → Type 0
Works log (work.Simulate p store) k before after answer = DoesAll (Simulates log.genesis p (option_map (λ name. k.before name.now) store)) before after answer
Works log (work.Run events store) k before after answer =
    Does (Runs log.genesis k events.now (option_map (λ name. name.now) store)) (RunBegins log.genesis (k.before events.now)) before after answer
    × SparesStore k.writes (option_map (λ name. name.now) store) k.before k.after answer
Works log (work.Threads chaincode rounds) k before after answer = DoesAll (RunsSeats log.genesis chaincode rounds) before after answer
Works log (work.Audit store) k before after answer = DoesAll (Audits log.genesis (k.before store.now)) before after answer
Works log (work.Show store from to) k before after answer =
    Does (Shows log.genesis from to (k.before store.now)) (ShowBegins log.genesis from to (k.before store.now)) before after answer
Works log (work.State store at asked) k before after answer =
    (p : Part) × IsPart asked p
    × Does (States log.genesis p at (k.before store.now)) (StateBegins log.genesis p at (k.before store.now)) before after answer
Works log (work.Trace call most) k before after answer = Does (Traces log.genesis call most) (TraceBegins log.genesis call most) before after answer
Works log (work.Peer org store) k before after answer =
    let p : Peer = record { log = log; org = org; keeps = k.writes } in
    let held = opened_bytes k.writes (k.before store.now) in
    Does (Peers p held k.input) (PeersBegin p held k.input) before after answer
    × OnOk answer (HoldsReached k.writes p store.now k.input k.before k.after)
    × KeepsTold k.writes p store.now k.input k.before k.after before after
Works log (work.Checkpoint store file) k before after answer =
    DoesAll (Checkpoints log k.writes (k.before store.now) (k.after file.now)) before after answer
    × SparesFile log k.writes store.now file.now k.before k.after answer
Works log (work.Marks store) k before after answer = DoesAll (Marks log.genesis (k.before store.now)) before after answer

-- the files of a genesis are read, and then this is done; or one of them is refused, nothing is printed, and all files stay
abbrev pub WithGenesis : KnownFiles → Beginning → (LogGenesis → (before after : Told) → Result (Unit {0}) Failure → Type 0) → (before after : Told) →
    Result (Unit {0}) Failure → Type 0
WithGenesis k b Does before after answer =
    ((log : LogGenesis) × Opens k.before b log × Does log before after answer)
    ⊎ ((f : Failure) × NotOpens k.before b f × (answer ≡ Err f) × (after ≡ before) × (k.after ≡ k.before))

-- a task is done
abbrev pub Comes : Task → KnownFiles → (before after : Told) → Result (Unit {0}) Failure → Type 0
Comes (task.Check m profile) k before after answer = DoesAll (Checks profile (k.before m.now)) before after answer
Comes (task.Digest m profile) k before after answer = DoesAll (Digests profile (k.before m.now)) before after answer
Comes (task.Public keys) k before after answer = DoesAll (Publishes (k.before keys.now)) before after answer
Comes (task.Version has_table) k before after answer = DoesAll (Versions has_table) before after answer
Comes (task.Work b w) k before after answer = WithGenesis k b (λ log. Works log w k) before after answer
