-- Machines beside one log are one system.
use Rattle.std.proofs.Common.{◌≡◌, ℕ, suc, ◌+◌, ◌<◌, List, [], ◌∷◌, ◌++◌, length, length-append, map, Option, Some, option_map, refl, sym, ap, subst}
use Rattle.std.proofs.Common.{inl, inr, ◌↔◌, ap₂, ◌∙◌, false, slice_get, arith, zero}
use Rattle.std.proofs.lemmas.List.{append-nil, append_assoc}
use Rattle.std.specs.List.{flat_map}
use Rattle.fab_types.specs.Size.{envelope_size}
use Rattle.fab_types.specs.declared.envelope.Endorsement.{Endorsement}
use Rattle.fab_types.specs.declared.envelope.Envelope.{Envelope}
use Rattle.fab_types.specs.Payloads.{Payload}
use Rattle.batch_cutter.specs.Division.{IsPending, Mark}
use Rattle.orderer.specs.Ordering.{AreLimits, IsOpening, IsOrdered, Ordering}
use Rattle.orderer.specs.declared.report.BatchReport.{BatchReport}
use Rattle.ledger_model.specs.Chain.{Bytes}
use Rattle.ledger_setting.specs.Rule.{table_of}
use Rattle.log_orderer.specs.Log.{ReadsEach}
use Rattle.fabric_core.specs.System.{PeerState, World, AreSteps, chain_of_first, fresh, opening}
use Rattle.fabric_core.specs.declared.event.Event.{Event}
use Rattle.fabric_core.specs.declared.event.Reply.{Reply}
use Rattle.fabric_core.specs.declared.event.Reply.TheVariants.{Endorsed}
use Rattle.fabric_core.specs.Headline.{IsAmong, IsRun, marks_of}
use Rattle.log_system.specs.Machines.{Setting, Machine, Act, Endorses, AreMachines, Joins, unread}
use Rattle.log_system.specs.OneSystem.{AreLines, IsAnswered, IsOneSystem, events_from, events_of_act, joined, orgs_of, peer_with, replies_of_acts}
use Rattle.log_system.specs.OneSystem.{replies_of_machines, rules_by}
use Rattle.log_system.proofs.Acting.{IsBehind, acted_each, world_at}
use Rattle.log_system.proofs.Among.{behind_among, parts_among}
use Rattle.log_system.proofs.Handing.{lines_quiet, machines_given, machines_told}
use Rattle.log_system.proofs.Reading.{AreMarked, StepLaw, log_read, marked_joined, resting}
use Rattle.log_system.proofs.Stepping.{steps_joined}

-- a peer more in front of the others
one_more : {X : Type 0} (front : List X) (x : X) (back : List X) → (front ++ x ∷ []) ++ back ≡ front ++ x ∷ back
one_more front x back = append_assoc front (x ∷ []) back

tall : {X : Type 0} (front : List X) (x : X) → length (front ++ x ∷ []) ≡ suc (length front)
tall front x = let h = length-append front (x ∷ []) in omega arith

-- the machines from one peer on, where the peers in front of it are as they are
machines_from : IsBehind → (s : Setting) (seats capacity : ℕ) (lines : List (List ℕ)) (told : List (Option (List BatchReport))) (log : Ordering) →
    ReadsEach (unread s) lines told log → 0 < seats → (front : List PeerState) (machines : List Machine) → AreMachines s lines machines →
    AreSteps (rules_by s capacity) (resting (front ++ map (fresh seats) (orgs_of machines)) log) (events_from (length front) machines)
    (replies_of_machines machines) (resting (front ++ map (peer_with seats) machines) log)
machines_from behind s seats capacity lines told log reads some front [] are = (refl, refl)
machines_from behind s seats capacity lines told log reads some front (m ∷ machines) are =
    let r = rules_by s capacity in
    let back = map (fresh seats) (orgs_of machines) in
    let more = front ++ peer_with seats m ∷ [] in
    let one = acted_each behind s seats capacity lines told log reads some front back m.org [] m.chain m.acts refl are.0 in
    let others = machines_from behind s seats capacity lines told log reads some more machines are.1 in
    let start = subst (λ (ps : List PeerState). AreSteps r (resting ps log) (events_from (length more) machines) (replies_of_machines machines)
    (resting (more ++ map (peer_with seats) machines) log)) (one_more front (peer_with seats m) back) others in
    let named = subst (λ (n : ℕ). AreSteps r (world_at seats log front back m.org m.chain) (events_from n machines) (replies_of_machines machines)
    (resting (more ++ map (peer_with seats) machines) log)) (tall front (peer_with seats m)) start in
    let end = subst (λ (ps : List PeerState). AreSteps r (world_at seats log front back m.org m.chain) (events_from (suc (length front)) machines)
    (replies_of_machines machines) (resting ps log)) (one_more front (peer_with seats m) (map (peer_with seats) machines)) named in
    steps_joined r (world_at seats log front back m.org []) (world_at seats log front back m.org m.chain)
    (resting (front ++ map (peer_with seats) (m ∷ machines)) log) (flat_map (events_of_act (length front)) m.acts) (events_from (suc (length front)) machines)
    (replies_of_acts 0 m.acts) (replies_of_machines machines) one.0 end

-- each machine's chain is of the log's first blocks
first_at : IsBehind → (s : Setting) (seats capacity : ℕ) (lines : List (List ℕ)) (told : List (Option (List BatchReport))) (log : Ordering) →
    ReadsEach (unread s) lines told log → 0 < seats → (machines : List Machine) → AreMachines s lines machines → (peer : ℕ) →
    option_map (λ (q : PeerState). chain_of_first (table_of s.listed) log.chain q.height) (slice_get (map (peer_with seats) machines) peer) ≡
    option_map (λ (m : Machine). m.chain) (slice_get machines peer)
first_at behind s seats capacity lines told log reads some [] are peer = refl
first_at behind s seats capacity lines told log reads some (m ∷ machines) are zero =
    let one = acted_each behind s seats capacity lines told log reads some [] [] m.org [] m.chain m.acts refl are.0 in
    ap Some (sym one.1)
first_at behind s seats capacity lines told log reads some (m ∷ machines) are (suc peer) =
    first_at behind s seats capacity lines told log reads some machines are.1 peer

-- ---- the machines give the orderer no mark

acts_marked : (peer height : ℕ) (acts : List Act) → AreMarked (flat_map (events_of_act peer) acts) (replies_of_acts height acts) []
acts_marked peer height [] es rs = refl
acts_marked peer height (Joins c ∷ acts) es rs = acts_marked peer (height + 1) acts es rs
acts_marked peer height (Endorses p answer ∷ acts) es rs = acts_marked peer height acts es rs

machines_marked : (peer : ℕ) (machines : List Machine) → AreMarked (events_from peer machines) (replies_of_machines machines) []
machines_marked peer [] es rs = refl
machines_marked peer (m ∷ machines) es rs =
    marked_joined (flat_map (events_of_act peer) m.acts) (events_from (suc peer) machines) (replies_of_acts 0 m.acts) (replies_of_machines machines) [] []
    (acts_marked peer 0 m.acts) (machines_marked (suc peer) machines) es rs

-- the marks of steps with nothing behind them
all_marked : (events : List Event) (replies : List Reply) (marks : List (Mark Envelope)) → AreMarked events replies (marks ++ []) →
    marks_of [] events replies ≡ marks
all_marked events replies marks are =
    ap₂ (λ (x : List Event) (y : List Reply). marks_of [] x y) (sym (append-nil events)) (sym (append-nil replies))
    ∙ are [] []
    ∙ append-nil (marks ++ [])
    ∙ append-nil marks

-- ---- one system

-- an orderer that was given nothing has made what no marks ask for
abbrev pub OpeningLaw : Type 0
OpeningLaw = (now : Ordering) → 0 < now.limits.count → IsOpening now → IsOrdered [] now

one_run : (s : Setting) (seats capacity : ℕ) (orgs : List Bytes) (events : List Event) (replies : List Reply) (world : World) →
    AreSteps (rules_by s capacity) (opening s.listed.edition orgs seats s.limits s.reorder) events replies world →
    IsOrdered (marks_of [] events replies) world.orderer → IsRun (rules_by s capacity) orgs seats s.limits s.reorder events replies world false
one_run s seats capacity orgs events replies world steps ordered = record {
  done = events;
  rest = [];
  order = append-nil events;
  steps = steps;
  whole = (λ _. refl, λ _. refl);
  ordered = ordered;
}

handed_out : (lines : List (List ℕ)) (answers : List (Option (List BatchReport))) (events : List Event) (replies : List Reply) (machines : List Machine) →
    AreLines lines answers events replies → (p : Payload) (x : Endorsement) →
    IsAmong (Endorsed p x) (replies ++ replies_of_machines machines) ↔ IsAnswered machines p x
handed_out lines answers events replies machines are p x = (
  λ h.
      elim (parts_among (Endorsed p x) replies (replies_of_machines machines) h) [
        | inl log ↦ absurd (lines_quiet lines answers events replies p x are log)
        | inr told ↦ machines_given machines p x told
      ],
  λ h. behind_among (Endorsed p x) replies (replies_of_machines machines) (machines_told machines p x h),
)

pub one_system : IsBehind → StepLaw → OpeningLaw → (s : Setting) (seats capacity : ℕ) (lines : List (List ℕ)) (answers : List (Option (List BatchReport)))
    (log : Ordering) (machines : List Machine) → AreLimits s.limits → 0 < seats → 0 < capacity → ReadsEach (unread s) lines answers log →
    AreMachines s lines machines → IsOneSystem s seats capacity lines answers log machines
one_system behind law opens s seats capacity lines answers log machines limits some room reads are =
    let r = rules_by s capacity in
    let peers = map (fresh seats) (orgs_of machines) in
    let later = events_from 0 machines in
    let told = replies_of_machines machines in
    let count = limits.some in
    let waits : IsPending envelope_size s.limits [] = record { counted = count; together = omega arith } in
    let first = log_read law r peers (unread s) log lines answers room waits reads in
    let acts = machines_from behind s seats capacity lines answers log reads some [] machines are in
    let steps = steps_joined r (resting peers (unread s)) (resting peers log) (joined seats log machines) first.events later first.replies told first.steps
    acts in
    let marked = all_marked (first.events ++ later) (first.replies ++ told) first.marks
    (marked_joined first.events later first.replies told first.marks [] first.marked (machines_marked 0 machines)) in
    let ordered = subst (λ (ms : List (Mark Envelope)). IsOrdered ms log) (sym marked) (first.ordered [] (opens (unread s) count (refl, refl))) in
    record {
      events = first.events;
      replies = first.replies;
      lines_are = first.told;
      run = one_run s seats capacity (orgs_of machines) (first.events ++ later) (first.replies ++ told) (joined seats log machines) steps ordered;
      chains = first_at behind s seats capacity lines answers log reads some machines are;
      handed_out = handed_out lines answers first.events first.replies machines first.told;
    }
