-- What the values of a task are, by the name of its command.
use Rattle.std.proofs.Common.{◌≡◌, ◌≢◌, ◌∙◌, ℕ, List, [], ◌∷◌, Bool, true, false, Option, None, codes, ap, refl, sym}
use Rattle.std.proofs.lemmas.Bool.{true≢false}
use Rattle.std.proofs.lemmas.Slice.Eq.{bytes_eq-Decides}
use Rattle.std.specs.Borrow.{Bor}
use Rattle.std.specs.List.{list_any}
use Rattle.std.specs.Str.{bytes_eq}
use Rattle.clap.specs.Walk.{Row, Text, first_of}
use Rattle.fab_types.specs.declared.limits.TheConstants.{LAST_BLOCK}
use Rattle.fab_types.specs.declared.proposal.Call.{Call}
use Rattle.fab_types.specs.declared.proposal.Proposal.{Proposal}
use Rattle.fab_types.specs.declared.proposal.Proposal.TheVariants as proposal
use Rattle.wasm_profile.specs.declared.profile.Profile.{Profile}
use Rattle.cli_words.specs.Commands.{command_name, work_name}
use Rattle.cli_words.specs.Words.{Has, IsCallBy, IsChaincodeBy, IsPartBy, IsProfileBy, IsProposedBy, IsTaskAs, IsWorkAs, IsWorkTask}
use Rattle.cli_words.specs.Words.{OrElse, SpellsBlock, SpellsCount, SpellsOrg}
use Rattle.cli_words.specs.declared.task.StatePart.{StatePart}
use Rattle.cli_words.specs.declared.task.Task.{Task}
use Rattle.cli_words.specs.declared.task.Task.TheVariants as task
use Rattle.cli_words.specs.declared.task.Work.{Work}
use Rattle.cli_words.specs.declared.task.Work.TheVariants as work

differ : (a b : Text) → bytes_eq a b ≡ false → a ≡ b → ⊥
differ a b apart is = true≢false (sym ((bytes_eq-Decides a b).1 is) ∙ apart)

-- ---- tasks without a genesis

abbrev is_work_name : Text → Bool
is_work_name name =
    list_any (bytes_eq name)
    (codes "sim" ∷ codes "run" ∷ codes "threads" ∷ codes "audit" ∷ codes "show" ∷ codes "state" ∷ codes "trace" ∷ codes "peer" ∷ codes "marks"
    ∷ codes "checkpoint" ∷ [])

named : (w : Work) → true ≡ is_work_name (work_name w)
named (work.Simulate p store) = refl
named (work.Run events store) = refl
named (work.Threads chaincode rounds) = refl
named (work.Audit store) = refl
named (work.Show store from to) = refl
named (work.State store at part) = refl
named (work.Trace call most) = refl
named (work.Peer org store) = refl
named (work.Marks store) = refl
named (work.Checkpoint store file) = refl

no_work : (w : Work) (name : Text) → is_work_name name ≡ false → work_name w ≡ name → ⊥
no_work w name apart is = true≢false (named w ∙ ap is_work_name is ∙ apart)

-- a word that has to be there
abbrev pub HasWord : List Row → Text → Type 0
HasWord rows name = (text : Bor Text) × Has rows name text.now

pub check_parts : (rows : List Row) (t : Task) → IsTaskAs (codes "check") rows t →
    HasWord rows (codes "MODULE") × ((profile : Profile) × IsProfileBy rows profile)
check_parts rows (task.Check m profile) h = ((m, h.1.0), (profile, h.1.1))
check_parts rows (task.Work b w) h = absurd (no_work w (codes "check") refl h.0)
check_parts rows t h = absurd (differ (command_name t) (codes "check") refl h.0)

pub digest_parts : (rows : List Row) (t : Task) → IsTaskAs (codes "digest") rows t →
    HasWord rows (codes "MODULE") × ((profile : Profile) × IsProfileBy rows profile)
digest_parts rows (task.Digest m profile) h = ((m, h.1.0), (profile, h.1.1))
digest_parts rows (task.Work b w) h = absurd (no_work w (codes "digest") refl h.0)
digest_parts rows t h = absurd (differ (command_name t) (codes "digest") refl h.0)

pub public_parts : (rows : List Row) (t : Task) → IsTaskAs (codes "public") rows t → HasWord rows (codes "KEYS")
public_parts rows (task.Public text) h = (text, h.1)
public_parts rows (task.Work b w) h = absurd (no_work w (codes "public") refl h.0)
public_parts rows t h = absurd (differ (command_name t) (codes "public") refl h.0)

-- a task of any other name has a genesis
pub work_task : (rows : List Row) (name : Text) → name ≢ codes "check" → name ≢ codes "digest" → name ≢ codes "public" →
    name ≢ codes "version" → (t : Task) → IsTaskAs name rows t → IsWorkTask name rows t
work_task rows name check digest public version (task.Check m profile) h = absurd (check (sym h.0))
work_task rows name check digest public version (task.Digest m profile) h = absurd (digest (sym h.0))
work_task rows name check digest public version (task.Public keys) h = absurd (public (sym h.0))
work_task rows name check digest public version (task.Version has_table) h = absurd (version (sym h.0))
work_task rows name check digest public version (task.Work b w) h = (h.1.0, (h.0, h.1.1))

-- and such a task is of that name
pub task_as : (rows : List Row) (name : Text) (t : Task) → IsWorkTask name rows t → IsTaskAs name rows t
task_as rows name (task.Work b w) h = (h.1.0, (h.0, h.1.1))
task_as rows name _ h = absurd h

pub genesis_parts : (rows : List Row) (name : Text) (t : Task) → IsWorkTask name rows t →
    HasWord rows (codes "GENESIS") × ((w : Work) × IsWorkAs name rows w)
genesis_parts rows name (task.Work b w) h = ((b.genesis, h.0.0), (w, h.1))
genesis_parts rows name _ h = absurd h

-- ---- tasks with a genesis

call_part : (rows : List Row) (p : Proposal) → IsProposedBy rows p → (call : Call) × IsCallBy rows (first_of (codes "nonce") rows) call
call_part rows (proposal.Call call) h = (call, h)
call_part rows _ h = absurd h

pub simulate_parts : (rows : List Row) (w : Work) → IsWorkAs (codes "sim") rows w → (call : Call) × IsCallBy rows (first_of (codes "nonce") rows) call
simulate_parts rows (work.Simulate p store) h = call_part rows p h.1.0
simulate_parts rows w h = absurd (differ (work_name w) (codes "sim") refl h.0)

pub run_parts : (rows : List Row) (w : Work) → IsWorkAs (codes "run") rows w → HasWord rows (codes "EVENTS")
run_parts rows (work.Run events store) h = (events, h.1.0)
run_parts rows w h = absurd (differ (work_name w) (codes "run") refl h.0)

pub threads_parts : (rows : List Row) (w : Work) → IsWorkAs (codes "threads") rows w →
    ((rounds : ℕ) × (digits : Text) × Has rows (codes "ROUNDS") digits × SpellsCount digits rounds) × ((chaincode : Text) × IsChaincodeBy rows chaincode)
threads_parts rows (work.Threads chaincode rounds) h = ((rounds, h.1.0.0, h.1.0.1, h.1.0.2), (chaincode, h.1.1))
threads_parts rows w h = absurd (differ (work_name w) (codes "threads") refl h.0)

pub audit_parts : (rows : List Row) (w : Work) → IsWorkAs (codes "audit") rows w → HasWord rows (codes "STORE")
audit_parts rows (work.Audit store) h = (store, h.1)
audit_parts rows w h = absurd (differ (work_name w) (codes "audit") refl h.0)

pub show_parts : (rows : List Row) (w : Work) → IsWorkAs (codes "show") rows w →
    HasWord rows (codes "STORE") × ((from : ℕ) × OrElse SpellsBlock 1 (first_of (codes "from") rows) from)
    × ((to : ℕ) × OrElse SpellsBlock LAST_BLOCK (first_of (codes "to") rows) to)
show_parts rows (work.Show store from to) h = ((store, h.1.0), (from, h.1.1), (to, h.1.2))
show_parts rows w h = absurd (differ (work_name w) (codes "show") refl h.0)

pub state_parts : (rows : List Row) (w : Work) → IsWorkAs (codes "state") rows w →
    HasWord rows (codes "STORE") × ((at : ℕ) × OrElse SpellsBlock LAST_BLOCK (first_of (codes "at") rows) at) × ((part : StatePart) × IsPartBy rows part)
state_parts rows (work.State store at part) h = ((store, h.1.0), (at, h.1.1), (part, h.1.2))
state_parts rows w h = absurd (differ (work_name w) (codes "state") refl h.0)

pub trace_parts : (rows : List Row) (w : Work) → IsWorkAs (codes "trace") rows w →
    ((most : ℕ) × OrElse SpellsCount 1000 (first_of (codes "steps") rows) most) × ((call : Call) × IsCallBy rows None call)
trace_parts rows (work.Trace call most) h = ((most, h.1.0), (call, h.1.1))
trace_parts rows w h = absurd (differ (work_name w) (codes "trace") refl h.0)

pub peer_parts : (rows : List Row) (w : Work) → IsWorkAs (codes "peer") rows w →
    ((org : Option Text) × OrElse SpellsOrg None (first_of (codes "org") rows) org) × HasWord rows (codes "STORE")
peer_parts rows (work.Peer org store) h = ((org, h.1.0), (store, h.1.1))
peer_parts rows w h = absurd (differ (work_name w) (codes "peer") refl h.0)

pub marks_parts : (rows : List Row) (w : Work) → IsWorkAs (codes "marks") rows w → HasWord rows (codes "STORE")
marks_parts rows (work.Marks store) h = (store, h.1)
marks_parts rows w h = absurd (differ (work_name w) (codes "marks") refl h.0)

pub checkpoint_parts : (rows : List Row) (w : Work) → IsWorkAs (codes "checkpoint") rows w →
    HasWord rows (codes "STORE") × HasWord rows (codes "FILE")
checkpoint_parts rows (work.Checkpoint store file) h = ((store, h.1.0), (file, h.1.1))
checkpoint_parts rows w h = absurd (differ (work_name w) (codes "checkpoint") refl h.0)

-- no work has any other name
pub other_work : (rows : List Row) (name : Text) → name ≢ codes "sim" → name ≢ codes "run" → name ≢ codes "threads" → name ≢ codes "audit" →
    name ≢ codes "show" → name ≢ codes "state" → name ≢ codes "trace" → name ≢ codes "peer" → name ≢ codes "marks" →
    name ≢ codes "checkpoint" → (w : Work) → IsWorkAs name rows w → ⊥
other_work rows name sim run threads audit show state trace peer marks checkpoint (work.Simulate p store) h = sim (sym h.0)
other_work rows name sim run threads audit show state trace peer marks checkpoint (work.Run events store) h = run (sym h.0)
other_work rows name sim run threads audit show state trace peer marks checkpoint (work.Threads chaincode rounds) h = threads (sym h.0)
other_work rows name sim run threads audit show state trace peer marks checkpoint (work.Audit store) h = audit (sym h.0)
other_work rows name sim run threads audit show state trace peer marks checkpoint (work.Show store from to) h = show (sym h.0)
other_work rows name sim run threads audit show state trace peer marks checkpoint (work.State store at part) h = state (sym h.0)
other_work rows name sim run threads audit show state trace peer marks checkpoint (work.Trace call most) h = trace (sym h.0)
other_work rows name sim run threads audit show state trace peer marks checkpoint (work.Peer org store) h = peer (sym h.0)
other_work rows name sim run threads audit show state trace peer marks checkpoint (work.Marks store) h = marks (sym h.0)
other_work rows name sim run threads audit show state trace peer marks checkpoint (work.Checkpoint store file) h = checkpoint (sym h.0)
