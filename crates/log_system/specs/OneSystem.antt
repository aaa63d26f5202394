-- The events of one system that are what a log and machines did: first all of the log, and then the acts of each machine, one machine after another.
use Rattle.std.specs.Prelude.{◌≡◌, ◌↔◌, ℕ, suc, ◌+◌, false, List, [], ◌∷◌, ◌++◌, Option, Some, None, Result, Ok, Err, length, map, option_map, replicate}
use Rattle.std.specs.Prelude.{slice_get}
use Rattle.std.specs.List.{flat_map}
use Rattle.std.specs.Option.{option_to_list}
use Rattle.fab_types.specs.Payloads.{Payload}
use Rattle.fab_types.specs.declared.proposal.Proposal.{Proposal}
use Rattle.fab_types.specs.declared.envelope.Endorsement.{Endorsement}
use Rattle.fab_types.specs.declared.envelope.Envelope.{Envelope}
use Rattle.batch_cutter.specs.Division.{Mark, message, timeout}
use Rattle.orderer.specs.Ordering.{Ordering}
use Rattle.orderer.specs.declared.report.BatchReport.{BatchReport}
use Rattle.ledger_model.specs.Chain.{Bytes}
use Rattle.simulator.specs.Execution.{exec_of}
use Rattle.simulator.specs.declared.refusal.SimRefusal.{SimRefusal}
use Rattle.ledger_setting.specs.Rule.{table_of}
use Rattle.log_orderer.specs.Lines.{IsMark}
use Rattle.fabric_core.specs.System.{Rules, PeerState, World, chain_of}
use Rattle.fabric_core.specs.declared.event.Event.{Event}
use Rattle.fabric_core.specs.declared.event.Event.TheVariants.{Begin, Finish, Submit, Take, Tick, Commit}
use Rattle.fabric_core.specs.declared.event.Reply.{Reply}
use Rattle.fabric_core.specs.declared.event.Reply.TheVariants.{Begun, Refused, Endorsed, Queued, Nothing, Ordered, Cut, Committed as IsCommitted}
use Rattle.fabric_core.specs.Headline.{IsAmong, IsRun}
use Rattle.log_system.specs.Machines.{Setting, Act, Joins, Endorses, Machine}

-- ---- the log

-- an envelope is sent and taken at once; a tick is a tick
abbrev pub events_of_mark : Mark Envelope → List Event
events_of_mark (message e) = Submit e ∷ Take ∷ []
events_of_mark timeout = Tick ∷ []

abbrev pub reply_of_tick : Option BatchReport → Reply
reply_of_tick None = Nothing
reply_of_tick (Some report) = Cut report

-- what is replied to a mark, where it ends batches with these reports
abbrev pub AreRepliesOf : Mark Envelope → List BatchReport → List Reply → Type 0
AreRepliesOf (message e) reports replies = replies ≡ Queued ∷ Ordered reports ∷ []
AreRepliesOf timeout reports replies =
    (report : Option BatchReport) × (reports ≡ option_to_list report) × (replies ≡ reply_of_tick report ∷ [])

-- a line is its mark's events, with its reports in their replies; one that is skipped is no event
abbrev pub IsLine : List ℕ → Option (List BatchReport) → List Event → List Reply → Type 0
IsLine line None events replies = (events ≡ []) × (replies ≡ [])
IsLine line (Some reports) events replies =
    (mark : Mark Envelope) × IsMark line mark × (events ≡ events_of_mark mark) × AreRepliesOf mark reports replies

-- line by line
abbrev pub AreLines : List (List ℕ) → List (Option (List BatchReport)) → List Event → List Reply → Type 0
AreLines [] answers events replies = (answers ≡ []) × (events ≡ []) × (replies ≡ [])
AreLines (line ∷ lines) answers events replies =
    (answer : Option (List BatchReport)) × (later : List (Option (List BatchReport))) × (here : List Event) × (others : List Event) ×
    (told : List Reply) × (rest : List Reply) × (answers ≡ answer ∷ later) × (events ≡ here ++ others) × (replies ≡ told ++ rest) ×
    IsLine line answer here told × AreLines lines later others rest

-- ---- the machines

-- an act of a peer's machine: a commit; or a proposal is begun at the peer's first seat, and finished at once
abbrev pub events_of_act : ℕ → Act → List Event
events_of_act peer (Joins c) = Commit peer ∷ []
events_of_act peer (Endorses p answer) = Begin peer 0 p ∷ Finish peer 0 ∷ []

abbrev pub reply_of : Result (Payload × Endorsement) SimRefusal → Reply
reply_of (Ok made) = Endorsed made.0 made.1
reply_of (Err refusal) = Refused refusal

-- what is replied at a height
abbrev pub replies_of_act : ℕ → Act → List Reply
replies_of_act height (Joins c) = IsCommitted (height + 1) c.flags ∷ []
replies_of_act height (Endorses p answer) = Begun height ∷ reply_of answer ∷ []

abbrev pub height_after : ℕ → Act → ℕ
height_after height (Joins c) = height + 1
height_after height (Endorses p answer) = height

abbrev pub replies_of_acts : ℕ → List Act → List Reply
replies_of_acts height [] = []
replies_of_acts height (act ∷ acts) = replies_of_act height act ++ replies_of_acts (height_after height act) acts

-- machines are peers, counted from this one on
abbrev pub events_from : ℕ → List Machine → List Event
events_from peer [] = []
events_from peer (m ∷ machines) = flat_map (events_of_act peer) m.acts ++ events_from (suc peer) machines

abbrev pub replies_of_machines : List Machine → List Reply
replies_of_machines machines = flat_map (λ m. replies_of_acts 0 m.acts) machines

-- ---- the system

-- the system's rules by the setting, with a queue of this capacity
abbrev pub rules_by : Setting → ℕ → Rules
rules_by s capacity =
    record { edition = s.listed.edition; exec = exec_of s.book; rule = table_of s.listed; seal = s.seal; capacity = capacity }

abbrev pub orgs_of : List Machine → List Bytes
orgs_of machines = map (λ m. m.org) machines

-- a peer with a machine's chain, and free seats
abbrev pub peer_with : ℕ → Machine → PeerState
peer_with seats m = record { org = m.org; height = length m.chain; seats = replicate seats None }

-- the orderer has what the log makes and each peer a machine's chain; nothing waits in the queue or at a seat
abbrev pub joined : ℕ → Ordering → List Machine → World
joined seats log machines = record { peers = map (peer_with seats) machines; queue = []; orderer = log }

-- a machine answered a proposal with this payload and this endorsement
abbrev pub IsAnswered : List Machine → Payload → Endorsement → Type 0
IsAnswered machines payload endorsement =
    (m : Machine) × IsAmong m machines × ((p : Proposal) × IsAmong (Endorses p (Ok (payload, endorsement))) m.acts)

-- The lines are events with the log's answers in their replies, and behind them the machines' acts are events with the machines'
-- answers: these are a run of the system, with these replies. In the end the orderer has what the log makes, and each peer its
-- machine's chain. What the run hands out is what the machines answered.
pub record IsOneSystem (s : Setting) (seats capacity : ℕ) (lines : List (List ℕ)) (answers : List (Option (List BatchReport))) (log : Ordering)
    (machines : List Machine) : Type 0 where
  pub events : List Event
  pub replies : List Reply
  pub lines_are : AreLines lines answers events replies
  pub run : IsRun (rules_by s capacity) (orgs_of machines) seats s.limits s.reorder (events ++ events_from 0 machines)
      (replies ++ replies_of_machines machines) (joined seats log machines) false
  pub chains : (peer : ℕ) → chain_of (rules_by s capacity) (joined seats log machines) peer ≡ option_map (λ m. m.chain) (slice_get machines peer)
  pub handed_out : (payload : Payload) (endorsement : Endorsement) →
      IsAmong (Endorsed payload endorsement) (replies ++ replies_of_machines machines) ↔ IsAnswered machines payload endorsement
