-- The chain of a machine is honest: what makes it serial are the endorsements that machines answered.
use Rattle.std.proofs.Common.{◌≡◌, ◌⊎◌, ℕ, zero, suc, Bool, List, [], ◌∷◌, take, length, Option, Some, Result, Ok, refl, sym, ap, subst, slice_get, arith}
use Rattle.fab_types.specs.declared.envelope.Endorsement.{Endorsement}
use Rattle.fab_types.specs.Payloads.{Payload}
use Rattle.fab_types.specs.declared.proposal.Proposal.{Proposal}
use Rattle.orderer.specs.Ordering.{Ordering}
use Rattle.orderer.specs.declared.report.BatchReport.{BatchReport}
use Rattle.wire.specs.Ids.{id_of}
use Rattle.ledger_model.specs.Chain.{Bytes, Chain, Envelope, Placed, history}
use Rattle.ledger_model.specs.Execution.{Unknown, NotInstalled, BadPolicy, BadMembership, Trapped, Spent, Status, Done, ReadsAlone, payload_of}
use Rattle.ledger_model.specs.Judged.{AreFlagsBy}
use Rattle.ledger_model.specs.Serial.{IsHandedOut, IsPrefix}
use Rattle.ledger_model.specs.State.{state}
use Rattle.ledger_model.specs.Views.{values_of}
use Rattle.ledger_model.proofs.Judged.{flags_judged, judged_current, judged_endorsed}
use Rattle.ledger_model.proofs.Reruns.{reruns_and_map, reruns_same}
use Rattle.endorsement_policy.specs.Endorsed.{is_endorsed}
use Rattle.ledger_setting.specs.Rule.{right_of, table_of}
use Rattle.simulator.specs.Answers.{done_or_refusal}
use Rattle.simulator.specs.Execution.{exec_of}
use Rattle.simulator.specs.declared.refusal.SimRefusal.{SimRefusal}
use Rattle.log_orderer.specs.Log.{ReadsEach}
use Rattle.endorser.specs.Endorsing.{endorsed_on, sealed_by}
use Rattle.fabric_core.specs.declared.event.Reply.TheVariants.{Endorsed}
use Rattle.fabric_core.specs.Headline.{IsAmong, IsHonest}
use Rattle.fabric_core.proofs.Genuine.{DoCarry, all_genuine, all_handed}
use Rattle.log_system.specs.Machines.{Act, Endorses, AreMachines, Does, DoesEach, Machine, Setting, endorsing_at, unread}
use Rattle.log_system.specs.OneSystem.{IsAnswered, replies_of_machines}
use Rattle.log_system.proofs.Acting.{IsBehind, IsFirstOf, acted}
use Rattle.log_system.proofs.Among.{none_among, same_some}
use Rattle.log_system.proofs.Firsts.{does_at, first_of, one_begins}
use Rattle.log_system.proofs.Handing.{machines_given}

-- ---- what is answered was made on a chain of first blocks

ok_same : {X : Type 0} (a b : X) → (let r : Result X SimRefusal = Ok a in r) ≡ Ok b → a ≡ b
ok_same a b e = cc

made_on : (s : Setting) (org : Bytes) (q : Proposal) (begun chain : Chain) (p : Payload) (x : Endorsement) → (IsPrefix begun chain ⊎ IsPrefix chain begun) →
    Ok (p, x) ≡ endorsed_on (endorsing_at s org) q begun → IsHandedOut (exec_of s.book) chain p
made_on s org q begun chain p x joined told =
    let exec = exec_of s.book in
    let m = state (history begun) in
    let o = exec q (values_of m) in
    let made = payload_of q m o.seen in
    elim o.ending as (λ y. o.ending ≡ y → Ok (p, x) ≡ sealed_by (s.seal (values_of m) org) (done_or_refusal y made) → IsHandedOut exec chain p) [
      | Done ↦ λ d f.
          let same = ok_same (p, x) (made, s.seal (values_of m) org made) f in
          subst (IsHandedOut exec chain) (sym (ap (λ (t : Payload × Endorsement). t.0) same))
          (record { begun = begun; joined = joined; done = d; payload = refl })
      | Unknown ↦ λ d f. absurd (cc)
      | NotInstalled ↦ λ d f. absurd (cc)
      | BadPolicy ↦ λ d f. absurd (cc)
      | BadMembership ↦ λ d f. absurd (cc)
      | Trapped k u ↦ λ d f. absurd (cc)
      | Spent ↦ λ d f. absurd (cc)
      | Status n ↦ λ d f. absurd (cc)
    ] refl told

module _ (behind : IsBehind) (s : Setting) (lines : List (List ℕ)) (told : List (Option (List BatchReport))) (log : Ordering)
    (reads : ReadsEach (unread s) lines told log) where
  -- the chain on which a machine answered
  answered_on : (org : Bytes) (chain new : Chain) (acts : List Act) (q : Proposal) (answer : Result (Payload × Endorsement) SimRefusal) →
      IsFirstOf (table_of s.listed) log.chain chain → DoesEach s lines org chain acts new → (i : ℕ) → slice_get acts i ≡ Some (Endorses q answer) →
      (begun : Chain) × IsFirstOf (table_of s.listed) log.chain begun ×
      (answer ≡ endorsed_on (endorsing_at s org) q begun)
  answered_on org chain new [] q answer is does i e = none_among (Endorses q answer) (i, e)
  answered_on org chain new (act ∷ acts) q answer is does zero e =
      let here = subst (λ (a : Act). Does s lines org chain a does.0) (same_some act (Endorses q answer) e) does.1 in
      (chain, is, here.0)
  answered_on org chain new (act ∷ acts) q answer is does (suc i) e =
      let next = acted behind s 1 1 lines told log reads (omega arith) [] [] org chain does.0 act is does.1 in
      answered_on org does.0 new acts q answer next.1 does.2 i e

  handed : (machines : List Machine) (chain : Chain) (p : Payload) (x : Endorsement) → AreMachines s lines machines →
      IsFirstOf (table_of s.listed) log.chain chain → IsAnswered machines p x → IsHandedOut (exec_of s.book) chain p
  handed machines chain p x are is h =
      let m = h.0 in
      let q = h.2.0 in
      let does = does_at s lines machines m h.1.0 are h.1.1 in
      let on = answered_on m.org [] m.chain m.acts q (Ok (p, x)) refl does h.2.1.0 h.2.1.1 in
      made_on s m.org q on.0 chain p x (one_begins (table_of s.listed) log.chain on.0 chain on.1 is) on.2

pub honest_machine : IsBehind → (s : Setting) (lines : List (List ℕ)) (told : List (Option (List BatchReport))) (log : Ordering) (machines : List Machine)
    (m : Machine) → ReadsAlone (exec_of s.book) → DoCarry s.listed → ReadsEach (unread s) lines told log → AreMachines s lines machines →
    IsAmong m machines → IsHonest (exec_of s.book) (table_of s.listed) (right_of s.listed) (replies_of_machines machines) m.chain
honest_machine behind s lines told log machines m alone carries reads are there =
    let exec = exec_of s.book in
    let chain = m.chain in
    let replies = replies_of_machines machines in
    let first = first_of behind s lines told log reads machines m are there in
    let flags : AreFlagsBy (table_of s.listed) [] chain =
    subst (λ (c : Chain). AreFlagsBy (table_of s.listed) [] c) (sym first) (flags_judged (table_of s.listed) (take (length chain) log.chain))
    in
    let endorsed : List Placed → Envelope → Bool = λ before. is_endorsed s.listed (state before) in
    let given : (p : Payload) (x : Endorsement) → IsAmong (Endorsed p x) replies → IsHandedOut exec chain p =
    λ p x among. handed behind s lines told log reads machines chain p x are first (machines_given machines p x among) in
    record {
      flags = flags;
      handed = all_handed exec (right_of s.listed) replies chain given [] chain;
      serial = λ genuine.
          let out = all_handed exec (right_of s.listed) replies chain given [] chain genuine in
          let now = judged_current s.listed.edition id_of endorsed chain flags in
          let both = reruns_and_map exec chain alone now out in
          record { agree = both.0; same = reruns_same exec chain alone now out; map = both.1 };
      genuine = λ unforged.
          let all = judged_endorsed s.listed.edition id_of endorsed [] chain flags in
          all_genuine s.listed replies [] chain carries all unforged;
    }
