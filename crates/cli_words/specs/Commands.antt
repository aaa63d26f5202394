-- The names of commands.
use Rattle.std.specs.Prelude.{◌≡◌, ℕ, List, [], ◌∷◌, codes}
use Rattle.cli_words.specs.declared.task.Task.{Task}
use Rattle.cli_words.specs.declared.task.Task.TheVariants as task
use Rattle.cli_words.specs.declared.task.Work.{Work}
use Rattle.cli_words.specs.declared.task.Work.TheVariants as work

abbrev pub work_name : Work → List ℕ
work_name (work.Simulate proposal store) = codes "sim"
work_name (work.Run events store) = codes "run"
work_name (work.Threads chaincode rounds) = codes "threads"
work_name (work.Audit store) = codes "audit"
work_name (work.Show store from to) = codes "show"
work_name (work.State store at part) = codes "state"
work_name (work.Trace call most) = codes "trace"
work_name (work.Peer org store) = codes "peer"
work_name (work.Marks store) = codes "marks"
work_name (work.Checkpoint store file) = codes "checkpoint"

abbrev pub command_name : Task → List ℕ
command_name (task.Check m profile) = codes "check"
command_name (task.Digest m profile) = codes "digest"
command_name (task.Public keys) = codes "public"
command_name (task.Version has_table) = codes "version"
command_name (task.Work begin w) = work_name w

-- the first of these words is the name of the task's command
abbrev pub IsCommandOf : List (List ℕ) → Task → Type 0
IsCommandOf [] t = ⊥
IsCommandOf (word ∷ words) t = word ≡ command_name t
