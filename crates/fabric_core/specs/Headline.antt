-- What a run comes to: it is a run of the definitions, and the chains that it leaves are serial.
use Rattle.std.specs.Prelude.{◌≡◌, ◌↔◌, ℕ, List, [], ◌∷◌, ◌++◌, Some, Bool, true, false, if◌then◌else◌, ◌+◌, take, slice_get}
use Rattle.std.specs.FinMap.{empty}
use Rattle.fab_types.specs.Payloads.{Payload}
use Rattle.fab_types.specs.declared.envelope.Endorsement.{Endorsement}
use Rattle.std.specs.List.{AllByRecursion}
use Rattle.ledger_model.specs.Legal.{DiffersBefore}
use Rattle.ledger_model.specs.Chain.{Bytes, Envelope, Valid, Committed, Chain, Placed, transactions_from, history}
use Rattle.ledger_model.specs.Views.{values_of}
use Rattle.ledger_model.specs.State.{state}
use Rattle.ledger_model.specs.Execution.{Exec}
use Rattle.ledger_model.specs.Serial.{AllAgree, AllHandedOut, AllSame, serial}
use Rattle.ledger_model.specs.Judged.{BlockRule, AreFlagsBy, block_of}
use Rattle.ledger_setting.specs.Rule.{RightRule}
use Rattle.batch_cutter.specs.Division.{Limits, Mark, message, timeout}
use Rattle.orderer.specs.Ordering.{IsOrdered}
use Rattle.fabric_core.specs.System.{Rules, World, Event, Submit, Take, Tick, Reply, Queued, TooLarge, NoBlockLeft, Endorsed, opening, AreSteps}

-- whether the orderer refused
abbrev pub is_handed_back : Reply → Bool
is_handed_back (TooLarge given) = true
is_handed_back (NoBlockLeft given) = true
is_handed_back reply = false

-- whether an envelope went into the queue
abbrev pub is_queued : Reply → Bool
is_queued Queued = true
is_queued reply = false

-- the queue after a step
abbrev pub queue_after : Event → List Envelope → Reply → List Envelope
queue_after (Submit e) queue reply = if is_queued reply then queue ++ e ∷ [] else queue
queue_after Take [] reply = []
queue_after Take (e ∷ es) reply = es
queue_after event queue reply = queue

-- what a step gives the orderer: the envelope in front or a timeout, unless it refused
abbrev pub marks_in : Event → List Envelope → Reply → List (Mark Envelope)
marks_in Take [] reply = []
marks_in Take (e ∷ es) reply = if is_handed_back reply then [] else message e ∷ []
marks_in Tick queue reply = if is_handed_back reply then [] else timeout ∷ []
marks_in event queue reply = []

-- the same of all steps
abbrev pub marks_of : List Envelope → List Event → List Reply → List (Mark Envelope)
marks_of queue [] replies = []
marks_of queue (e ∷ es) [] = []
marks_of queue (e ∷ es) (r ∷ rs) = marks_in e queue r ++ marks_of (queue_after e queue r) es rs

-- The events `done` were steps, from the opening on, and the rest were none. There is a rest exactly
-- where memory was refused. The orderer's blocks are those of the batches into which the marks are cut.
pub record IsRun (r : Rules) (orgs : List Bytes) (seats : ℕ) (limits : Limits) (reorder : Bool) (events : List Event) (replies : List Reply) (world : World)
    (refused : Bool) : Type 0 where
  pub done : List Event
  pub rest : List Event
  pub order : done ++ rest ≡ events
  pub steps : AreSteps r (opening r.edition orgs seats limits reorder) done replies world
  pub whole : (refused ≡ false) ↔ (rest ≡ [])
  pub ordered : IsOrdered (marks_of [] done replies) world.orderer

abbrev pub IsAmong : {X : Type 0} → X → List X → Type 0
IsAmong x xs = (i : ℕ) × (slice_get xs i ≡ Some x)

-- a right tag of the envelope was handed out, for this very payload, by a Finish of the run
pub record IsHandedOutBy (is_right : Payload → Endorsement → Bool) (replies : List Reply) (e : Envelope) : Type 0 where
  pub endorsement : Endorsement
  pub stands : IsAmong endorsement e.endorsements
  pub right : is_right e.payload endorsement ≡ true
  pub given : IsAmong (Endorsed e.payload endorsement) replies

-- of each VALID transaction, one at least
abbrev pub IsGenuine : (Payload → Endorsement → Bool) → List Reply → List Placed → Type 0
IsGenuine is_right replies [] = Unit {0}
IsGenuine is_right replies (t ∷ ts) = (t.flag ≡ Valid → IsHandedOutBy is_right replies t.envelope) × IsGenuine is_right replies ts

-- no tag was forged: all right tags of each VALID transaction were so handed out
abbrev pub IsUnforged : (Payload → Endorsement → Bool) → List Reply → List Placed → Type 0
IsUnforged is_right replies [] = Unit {0}
IsUnforged is_right replies (t ∷ ts) =
    (t.flag ≡ Valid → (x : Endorsement) → IsAmong x t.envelope.endorsements → is_right t.envelope.payload x ≡ true →
    IsAmong (Endorsed t.envelope.payload x) replies)
    × IsUnforged is_right replies ts

-- the same of the blocks behind `before`, each by whose tags are right before it
abbrev pub AreGenuine : RightRule → List Reply → Chain → Chain → Type 0
AreGenuine right replies before [] = Unit {0}
AreGenuine right replies before (c ∷ cs) = IsGenuine (right (history before)) replies (block_of before c) × AreGenuine right replies (before ++ c ∷ []) cs

abbrev pub AreUnforged : RightRule → List Reply → Chain → Chain → Type 0
AreUnforged right replies before [] = Unit {0}
AreUnforged right replies before (c ∷ cs) = IsUnforged (right (history before)) replies (block_of before c) × AreUnforged right replies (before ++ c ∷ []) cs

-- Each VALID transaction, executed again alone on the plain state just before its place, agrees with its
-- payload, and that rerun is the very execution that the Finish made, values included. The state without
-- its versions is that of the serial run.
pub record IsSerial (exec : Exec) (chain : Chain) : Type 0 where
  pub agree : AllAgree exec empty (history chain)
  pub same : AllSame exec chain empty (history chain)
  pub map : values_of (state (history chain)) ≡ serial exec (history chain)

-- A chain of a run: each flag is the rule's; where each VALID transaction has a right tag that was handed out, each VALID payload
-- was handed out by an execution, and the chain is serial; and they have where no right tag was forged. Which tags are right is by
-- what stands before their block.
pub record IsHonest (exec : Exec) (rule : BlockRule) (right : RightRule) (replies : List Reply) (chain : Chain) : Type 0 where
  pub flags : AreFlagsBy rule [] chain
  pub handed : AreGenuine right replies [] chain → AllHandedOut exec chain (history chain)
  pub serial : AreGenuine right replies [] chain → IsSerial exec chain
  pub genuine : AreUnforged right replies [] chain → AreGenuine right replies [] chain

-- In each block a transaction is a conflict only where a read or a range of it differed already in the state before that
-- block.
abbrev pub ConflictsAreOlder : Chain → Type 0
ConflictsAreOlder chain =
    (place : ℕ) (c : Committed) → slice_get chain place ≡ Some c →
    AllByRecursion (DiffersBefore (state (history (take place chain)))) (transactions_from (place + 1) 0 c.block.envelopes c.flags)
