-- A task that answers that words name none printed all its texts.
use Rattle.std.specs.Prelude.{option_map}
use Rattle.std.proofs.Common.{◌≡◌, ◌∙◌, ℕ, List, Bool, true, false, true≢false, Result, Ok, Err, ap, inl, inr, refl, subst, sym}
use Rattle.cli_lines.specs.Places.{opened_bytes}
use Rattle.cli_lines.specs.Told.{Told, Answers, BreaksOff}
use Rattle.cli_lines.specs.declared.failure.Failure.{Failure}
use Rattle.cli_lines.specs.declared.failure.Failure.TheVariants as failure
use Rattle.peer_answers.specs.declared.log_genesis.LogGenesis.{LogGenesis}
use Rattle.cli_words.specs.declared.task.Task.{Task}
use Rattle.cli_words.specs.declared.task.Task.TheVariants as task
use Rattle.cli_words.specs.declared.task.Work.{Work}
use Rattle.cli_words.specs.declared.task.Work.TheVariants as work
use Rattle.cli_words.specs.declared.task.WordsFault.{WordsFault}
use Rattle.cli_words.specs.declared.task.WordsFault.TheVariants as words
use Rattle.ledger_cli.specs.Ends.{ComesOf, PrintsLast, failure_status}
use Rattle.cli_peer.specs.Checkpoints.{Checkpoints}
use Rattle.cli_peer.specs.Peering.{Peers}
use Rattle.cli_show.specs.Answers.{States}
use Rattle.cli_show.specs.Findings.{Audits, Shows}
use Rattle.cli_show.specs.Marks.{Marks}
use Rattle.cli_show.specs.Modules.{Checks, Digests}
use Rattle.cli_show.specs.Simulations.{Simulates}
use Rattle.cli_show.specs.Tracing.{Traces}
use Rattle.cli_show.specs.Version.{Versions}
use Rattle.ledger_cli.specs.Keys.{Publishes}
use Rattle.ledger_cli.specs.Seats.{RunsSeats}
use Rattle.ledger_cli.specs.Tasks.{Comes, KnownFiles, Runs, Works}

abbrev Answer : Type 0
Answer = Result (Unit {0}) Failure

-- no text failed meanwhile
abbrev pub IsKept : (before after : Told) → Type 0
IsKept t u = u.failed ≡ t.failed

answers_kept : (P : Answer → List ℕ → Type 0) (t u : Told) (r : Answer) → r ≡ Err failure.Usage → Answers P t u r → IsKept t u
answers_kept P t u r is (inl broken) = absurd (subst (λ (q : Answer). BreaksOff q) is broken)
answers_kept P t u r is (inr a) = a.2.whole

works_kept : (log : LogGenesis) (w : Work) (k : KnownFiles) (t u : Told) (r : Answer) → r ≡ Err failure.Usage → Works log w k t u r → IsKept t u
works_kept log (work.Simulate p store) k t u r is h = answers_kept (Simulates log.genesis p (option_map (λ name. k.before name.now) store)) t u r is h.0
works_kept log (work.Run events store) k t u r is h = answers_kept (Runs log.genesis k events.now (option_map (λ name. name.now) store)) t u r is h.0.0
works_kept log (work.Threads chaincode rounds) k t u r is h = answers_kept (RunsSeats log.genesis chaincode rounds) t u r is h.0
works_kept log (work.Audit store) k t u r is h = answers_kept (Audits log.genesis (k.before store.now)) t u r is h.0
works_kept log (work.Show store from to) k t u r is h = answers_kept (Shows log.genesis from to (k.before store.now)) t u r is h.0
works_kept log (work.State store at part) k t u r is h = answers_kept (States log.genesis h.0 at (k.before store.now)) t u r is h.2.0
works_kept log (work.Trace call most) k t u r is h = answers_kept (Traces log.genesis call most) t u r is h.0
works_kept log (work.Peer org store) k t u r is h =
    answers_kept (Peers (record { log = log; org = org; keeps = k.writes }) (opened_bytes k.writes (k.before store.now)) k.input) t u r is h.0.0
works_kept log (work.Checkpoint store file) k t u r is h =
    answers_kept (Checkpoints log k.writes (k.before store.now) (k.after file.now)) t u r is h.0.0
works_kept log (work.Marks store) k t u r is h = answers_kept (Marks log.genesis (k.before store.now)) t u r is h.0

comes_kept : (task : Task) (k : KnownFiles) (t u : Told) (r : Answer) → r ≡ Err failure.Usage → Comes task k t u r → IsKept t u
comes_kept (task.Check m profile) k t u r is h = answers_kept (Checks profile (k.before m.now)) t u r is h.0
comes_kept (task.Digest m profile) k t u r is h = answers_kept (Digests profile (k.before m.now)) t u r is h.0
comes_kept (task.Public keys) k t u r is h = answers_kept (Publishes (k.before keys.now)) t u r is h.0
comes_kept (task.Version has_table) k t u r is h = answers_kept (Versions has_table) t u r is h.0
comes_kept (task.Work b w) k t u r is (inl opened) = works_kept opened.0 w k t u r is opened.2
comes_kept (task.Work b w) k t u r is (inr refused) = ap (λ (v : Told). v.failed) refused.3

pub usage_kept : (ws : List (List ℕ)) (task : Result Task WordsFault) (k : KnownFiles) (t u : Told) (r : Answer) → r ≡ Err failure.Usage →
    ComesOf ws task k t u r → IsKept t u
usage_kept ws (Ok task) k t u r is h = comes_kept task k t u r is h.1
usage_kept ws (Err words.Memory) k t u r is h = ap (λ (v : Told). v.failed) h.1
usage_kept ws (Err words.Usage) k t u r is h = ap (λ (v : Told). v.failed) h.2

-- where a text failed behind that, its status is that of other failures
pub lost_status : (command : List ℕ) (f : Failure) (t v : Told) → PrintsLast command f t v → (f ≡ failure.Usage → t.failed ≡ false) →
    v.failed ≡ true → failure_status f ≡ 1
lost_status command failure.Usage t v prints whole lost = absurd (true≢false (sym lost ∙ prints.whole ∙ whole refl))
lost_status command _ t v prints whole lost = refl

-- the same of a failure that could be told, or not
pub lost_by : (command : List ℕ) (f : Failure) (t v : Told) (b : Bool) (status : ℕ) → (b ≡ true → status ≡ failure_status f) → (b ≡ false → status ≡ 1) →
    (b ≡ true → PrintsLast command f t v) → (f ≡ failure.Usage → t.failed ≡ false) → v.failed ≡ true → status ≡ 1
lost_by command f t v true status told lost line usage failed = told refl ∙ lost_status command f t v (line refl) usage failed
lost_by command f t v false status told lost line usage failed = lost refl

pub ended_by : (command : List ℕ) (f : Failure) (t v : Told) (b : Bool) (status : ℕ) → (b ≡ true → status ≡ failure_status f) → (b ≡ false → v.failed ≡ true) →
    (b ≡ true → PrintsLast command f t v) → v.failed ≡ false → (status ≡ failure_status f) × PrintsLast command f t v
ended_by command f t v true status told lost line whole = (told refl, line refl)
ended_by command f t v false status told lost line whole = absurd (true≢false (sym (lost refl) ∙ whole))
