-- Which endorsements stand in the replies: those that a machine answered.
use Rattle.std.proofs.Common.{inl, inr, ◌≡◌, ◌+◌, ℕ, zero, suc, List, [], ◌∷◌, ◌++◌, Option, Some, None, Result, Ok, Err, refl, sym, subst, slice_get}
use Rattle.fab_types.specs.declared.envelope.Endorsement.{Endorsement}
use Rattle.fab_types.specs.declared.envelope.Envelope.{Envelope}
use Rattle.fab_types.specs.Payloads.{Payload}
use Rattle.fab_types.specs.declared.proposal.Proposal.{Proposal}
use Rattle.batch_cutter.specs.Division.{Mark, message, timeout}
use Rattle.orderer.specs.declared.report.BatchReport.{BatchReport}
use Rattle.simulator.specs.declared.refusal.SimRefusal.{SimRefusal}
use Rattle.fabric_core.specs.declared.event.Event.{Event}
use Rattle.fabric_core.specs.declared.event.Reply.{Reply}
use Rattle.fabric_core.specs.declared.event.Reply.TheVariants.{Begun, Cut, Endorsed, Committed as IsCommitted, Nothing, Ordered, Queued}
use Rattle.fabric_core.specs.Headline.{IsAmong}
use Rattle.log_system.specs.Machines.{Act, Endorses, Joins, Machine}
use Rattle.log_system.specs.OneSystem.{AreLines, AreRepliesOf, IsAnswered, IsLine, height_after, replies_of_act, replies_of_acts, replies_of_machines, reply_of}
use Rattle.log_system.proofs.Among.{behind_among, cases_among, front_among, later_among, none_among, parts_among, same_some}

-- ---- the log hands out nothing

mark_quiet : (mark : Mark Envelope) (reports : List BatchReport) (replies : List Reply) (p : Payload) (x : Endorsement) → AreRepliesOf mark reports replies →
    IsAmong (Endorsed p x) replies → ⊥
mark_quiet (message e) reports replies p x are h =
    let known = subst (IsAmong (Endorsed p x)) are h in
    elim (cases_among (Endorsed p x) Queued (Ordered reports ∷ []) known) [
      | inl same ↦ absurd (cc)
      | inr later ↦ elim (cases_among (Endorsed p x) (Ordered reports) [] later) [ inl same ↦ absurd (cc) | inr none ↦ none_among (Endorsed p x) none ]
    ]
mark_quiet timeout reports replies p x (None, told, are) h =
    elim (cases_among (Endorsed p x) Nothing [] (subst (IsAmong (Endorsed p x)) are h)) [ inl same ↦ absurd (cc) | inr none ↦ none_among (Endorsed p x) none ]
mark_quiet timeout reports replies p x (Some report, told, are) h =
    elim (cases_among (Endorsed p x) (Cut report) [] (subst (IsAmong (Endorsed p x)) are h)) [
      | inl same ↦ absurd (cc)
      | inr none ↦ none_among (Endorsed p x) none
    ]

line_quiet : (line : List ℕ) (answer : Option (List BatchReport)) (events : List Event) (replies : List Reply) (p : Payload) (x : Endorsement) →
    IsLine line answer events replies → IsAmong (Endorsed p x) replies → ⊥
line_quiet line None events replies p x is h = none_among (Endorsed p x) (subst (IsAmong (Endorsed p x)) is.1 h)
line_quiet line (Some reports) events replies p x is h = mark_quiet is.0 reports replies p x is.3 h

pub lines_quiet : (lines : List (List ℕ)) (answers : List (Option (List BatchReport))) (events : List Event) (replies : List Reply) (p : Payload)
    (x : Endorsement) → AreLines lines answers events replies → IsAmong (Endorsed p x) replies → ⊥
lines_quiet [] answers events replies p x are h = none_among (Endorsed p x) (subst (IsAmong (Endorsed p x)) are.2 h)
lines_quiet (line ∷ lines) answers events replies p x are h =
    elim (parts_among (Endorsed p x) are.4 are.5 (subst (IsAmong (Endorsed p x)) are.8 h)) [
      | inl here ↦ line_quiet line are.0 are.2 are.4 p x are.9 here
      | inr later ↦ lines_quiet lines are.1 are.3 are.5 p x are.10 later
    ]

-- ---- a machine hands out what it answers

payload_same : (p q : Payload) (x y : Endorsement) → Endorsed p x ≡ Endorsed q y → p ≡ q
payload_same p q x y e = cc

endorsement_same : (p q : Payload) (x y : Endorsement) → Endorsed p x ≡ Endorsed q y → x ≡ y
endorsement_same p q x y e = cc

answer_known : (answer : Result (Payload × Endorsement) SimRefusal) (p : Payload) (x : Endorsement) → reply_of answer ≡ Endorsed p x → answer ≡ Ok (p, x)
answer_known (Ok made) p x e =
    let one = payload_same made.0 p made.1 x e in
    let two = endorsement_same made.0 p made.1 x e in
    λ i. Ok (one i, two i)
answer_known (Err refusal) p x e = absurd (cc)

-- an endorsement that a list of acts answers
abbrev IsGiven : List Act → Payload → Endorsement → Type 0
IsGiven acts p x = (q : Proposal) × IsAmong (Endorses q (Ok (p, x))) acts

given_later : (act : Act) (acts : List Act) (p : Payload) (x : Endorsement) → IsGiven acts p x → IsGiven (act ∷ acts) p x
given_later act acts p x h = (h.0, later_among (Endorses h.0 (Ok (p, x))) act acts h.1)

act_given : (height : ℕ) (act : Act) (acts : List Act) (p : Payload) (x : Endorsement) → IsAmong (Endorsed p x) (replies_of_act height act) →
    IsGiven (act ∷ acts) p x
act_given height (Joins c) acts p x h =
    elim (cases_among (Endorsed p x) (IsCommitted (height + 1) c.flags) [] h) [ inl same ↦ absurd (cc) | inr none ↦ none_among (Endorsed p x) none ]
act_given height (Endorses q answer) acts p x h =
    elim (cases_among (Endorsed p x) (Begun height) (reply_of answer ∷ []) h) [
      | inl same ↦ absurd (cc)
      | inr later ↦ elim (cases_among (Endorsed p x) (reply_of answer) [] later) [
        | inl same ↦ let known = answer_known answer p x same in (q, (0, λ i. Some (Endorses q (known i))))
        | inr none ↦ none_among (Endorsed p x) none
      ]
    ]

acts_given : (height : ℕ) (acts : List Act) (p : Payload) (x : Endorsement) → IsAmong (Endorsed p x) (replies_of_acts height acts) → IsGiven acts p x
acts_given height [] p x h = none_among (Endorsed p x) h
acts_given height (act ∷ acts) p x h =
    elim (parts_among (Endorsed p x) (replies_of_act height act) (replies_of_acts (height_after height act) acts) h) [
      | inl here ↦ act_given height act acts p x here
      | inr later ↦ given_later act acts p x (acts_given (height_after height act) acts p x later)
    ]

acts_told : (height : ℕ) (acts : List Act) (q : Proposal) (p : Payload) (x : Endorsement) (i : ℕ) → slice_get acts i ≡ Some (Endorses q (Ok (p, x))) →
    IsAmong (Endorsed p x) (replies_of_acts height acts)
acts_told height [] q p x i e = none_among (Endorses q (Ok (p, x))) (i, e)
acts_told height (act ∷ acts) q p x zero e =
    let is = same_some act (Endorses q (Ok (p, x))) e in
    subst (λ (a : Act). IsAmong (Endorsed p x) (replies_of_act height a ++ replies_of_acts (height_after height a) acts)) (sym is) (1, refl)
acts_told height (act ∷ acts) q p x (suc i) e =
    behind_among (Endorsed p x) (replies_of_act height act) (replies_of_acts (height_after height act) acts)
    (acts_told (height_after height act) acts q p x i e)

-- ---- and so do all together

pub machines_given : (machines : List Machine) (p : Payload) (x : Endorsement) → IsAmong (Endorsed p x) (replies_of_machines machines) →
    IsAnswered machines p x
machines_given [] p x h = none_among (Endorsed p x) h
machines_given (m ∷ machines) p x h =
    elim (parts_among (Endorsed p x) (replies_of_acts 0 m.acts) (replies_of_machines machines) h) [
      | inl here ↦ (m, (0, refl), acts_given 0 m.acts p x here)
      | inr later ↦ let found = machines_given machines p x later in (found.0, later_among found.0 m machines found.1, found.2)
    ]

told_by : (machines : List Machine) (m : Machine) (p : Payload) (x : Endorsement) (i : ℕ) → slice_get machines i ≡ Some m →
    IsAmong (Endorsed p x) (replies_of_acts 0 m.acts) → IsAmong (Endorsed p x) (replies_of_machines machines)
told_by [] m p x i e h = none_among m (i, e)
told_by (n ∷ machines) m p x zero e h =
    let is = same_some n m e in
    front_among (Endorsed p x) (replies_of_acts 0 n.acts) (replies_of_machines machines)
    (subst (λ (l : Machine). IsAmong (Endorsed p x) (replies_of_acts 0 l.acts)) (sym is) h)
told_by (n ∷ machines) m p x (suc i) e h =
    behind_among (Endorsed p x) (replies_of_acts 0 n.acts) (replies_of_machines machines) (told_by machines m p x i e h)

pub machines_told : (machines : List Machine) (p : Payload) (x : Endorsement) → IsAnswered machines p x →
    IsAmong (Endorsed p x) (replies_of_machines machines)
machines_told machines p x h =
    told_by machines h.0 p x h.1.0 h.1.1 (acts_told 0 h.0.acts h.2.0 p x h.2.1.0 h.2.1.1)
