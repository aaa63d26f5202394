-- Each transaction of the chain was handed out by a seat, on a chain that the whole one begins with.
use Rattle.std.proofs.Common.{◌≡◌, ◌≢◌, ℕ, suc, ◌<◌, ◌≤◌, ◌+◌, ◌++◌, List, [], ◌∷◌, length, Result, Ok, Err, refl, sym, subst, ⊎_elim, arith}
use Rattle.std.proofs.lemmas.Bool.{cases_lt}
use mathlib.Core.List.{IsPrefix}
use Rattle.fab_types.specs.declared.block.Block.{Block}
use Rattle.fab_types.specs.declared.envelope.Envelope.{Envelope}
use Rattle.fab_types.specs.declared.proposal.Proposal.{Proposal}
use Rattle.fab_types.specs.Payloads.{Payload}
use Rattle.ledger_model.specs.Chain.{Chain, Flag, Placed, history, transactions_from, placed_from}
use Rattle.ledger_model.specs.Execution.{Unknown, NotInstalled, BadPolicy, BadMembership, Trapped, Spent, Status, Done, Exec, payload_of}
use Rattle.ledger_model.specs.Judged.{BlockRule, judged_chain}
use Rattle.ledger_model.specs.Serial.{AllHandedOut, IsHandedOut}
use Rattle.ledger_model.specs.State.{state}
use Rattle.ledger_model.specs.Views.{values_of}
use Rattle.simulator.specs.Answers.{done_or_refusal}
use Rattle.simulator.specs.Execution.{exec_of}
use Rattle.simulator.specs.declared.refusal.SimRefusal.{SimRefusal}
use Rattle.endorser.specs.Endorsing.{Endorsing, simulated_on}
use Rattle.committer.specs.Fits.{blocks_of}
use Rattle.fabric_core.proofs.Blocks.{blocks_judged}
use Rattle.snapshot_cell.proofs.Fronts.{prefix_trans}
use Rattle.intake.specs.declared.rule.Parcel.{Parcel}
use Rattle.intake.specs.Mail.{of}
use Rattle.seat_threads.specs.Desks.{envelopes_got}
use Rattle.seat_threads.specs.Reports.{AreGot}
use Rattle.seat_threads.specs.Rounds.{Outcome, proposal_of, envelopes_in, ComesTo, ComeInTurn}
use Rattle.seat_threads.specs.Work.{Task, AllCameTo}
use Rattle.seat_threads.proofs.Getting.{of_here, of_other, same_or_not}
use Rattle.seat_threads.proofs.Growing.{one_begins, turn_grows}
use Rattle.seat_threads.proofs.Sifting.{AllIn, AllInBlocks}

ok_same : {X : Type 0} (a b : X) → (let r : Result X SimRefusal = Ok a in r) ≡ Ok b → a ≡ b
ok_same a b e = cc

-- the envelope's payload was handed out
abbrev pub IsGiven : Exec → Chain → Envelope → Type 0
IsGiven exec chain x = IsHandedOut exec chain x.payload

made_on : (e : Endorsing) (q : Proposal) (begun chain whole : Chain) (p : Payload) → IsPrefix begun whole → IsPrefix chain whole →
    simulated_on e q begun ≡ Ok p → IsHandedOut (exec_of e.book) chain p
made_on e q begun chain whole p front begins told =
    let exec = exec_of e.book in
    let m = state (history begun) in
    let o = exec q (values_of m) in
    let made = payload_of q m o.seen in
    elim o.ending as (λ y. o.ending ≡ y → done_or_refusal y made ≡ Ok p → IsHandedOut exec chain p) [
      | Done ↦ λ d f.
          subst (IsHandedOut exec chain) (ok_same made p f)
          (record { begun = begun; joined = one_begins begun chain whole front begins; done = d; payload = refl })
      | Unknown ↦ λ d f. absurd (cc)
      | NotInstalled ↦ λ d f. absurd (cc)
      | BadPolicy ↦ λ d f. absurd (cc)
      | BadMembership ↦ λ d f. absurd (cc)
      | Trapped k u ↦ λ d f. absurd (cc)
      | Spent ↦ λ d f. absurd (cc)
      | Status n ↦ λ d f. absurd (cc)
    ] refl told

module _ (task : Task) (chain whole : Chain) (begins : IsPrefix chain whole) where
  abbrev IsOf : Envelope → Type 0
  IsOf = IsGiven (exec_of task.endorsing.book) chain

  round_given : (q : Proposal) (before seen : Chain) (x : Envelope) → ComesTo task.endorsing q before seen (Ok x) → IsPrefix seen whole → IsOf x
  round_given q before seen x h past =
      ⊎_elim (λ none. absurd (cc (none.1)))
      (λ made. made_on task.endorsing q made.0 chain whole x.payload (prefix_trans made.0 seen whole made.2.1 past) begins made.2.0) h.1

  seat_given : (seat round : ℕ) (before last : Chain) (outcomes : List Outcome) → ComeInTurn task.endorsing task.chaincode seat round before last outcomes →
      IsPrefix last whole → AllIn IsOf (envelopes_in outcomes)
  seat_given seat round before last [] h past = tt
  seat_given seat round before last (Ok x ∷ outcomes) h past =
      let seen = prefix_trans h.0 last whole (turn_grows task.endorsing task.chaincode seat (round + 1) h.0 last outcomes h.3) past in
      (round_given (proposal_of task.chaincode seat round) before h.0 x h.2 seen, seat_given seat (round + 1) h.0 last outcomes h.3 past)
  seat_given seat round before last (Err r ∷ outcomes) h past = seat_given seat (round + 1) h.0 last outcomes h.3 past

  seats_given : (got : List Parcel) (seat : ℕ) (seats : List (List Outcome)) → AllCameTo task whole seat seats → AreGot got seat seats →
      (p : ℕ) → seat ≤ p → p < seat + length seats → AllIn IsOf (of p got)
  seats_given got seat [] came are p from below = absurd (omega (arith, from, below))
  seats_given got seat (outcomes ∷ others) came are p from below =
      ⊎_elim
      (λ (here : seat ≡ p).
      let put = seat_given seat 0 [] came.0.0 outcomes came.0.1.1 came.0.2 in
      subst (λ (n : ℕ). AllIn IsOf (of n got)) here (subst (AllIn IsOf) (sym are.0) put))
      (λ (other : seat ≢ p). seats_given got (seat + 1) others came.1 are.1 p (omega (arith, from, other)) (omega (arith, below)))
      (same_or_not seat p)

  got_given : (got : List Parcel) → ((p : ℕ) → AllIn IsOf (of p got)) → AllIn IsOf (envelopes_got got)
  got_given [] all = tt
  got_given (x ∷ got) all =
      let first = subst (AllIn IsOf) (of_here x.from x got refl) (all x.from) in (
        first.0,
        got_given got (λ p. ⊎_elim
            (λ (here : p ≡ x.from). (subst (AllIn IsOf) (of_here p x got here) (all p)).1)
            (λ (other : p ≢ x.from). subst (AllIn IsOf) (of_other p x got other) (all p))
            (same_or_not p x.from)),
      )

  -- all that was got
  pub all_given : (got : List Parcel) (seats : List (List Outcome)) → AllCameTo task whole 0 seats → AreGot got 0 seats →
      ((p : ℕ) → length seats ≤ p → of p got ≡ []) → AllIn IsOf (envelopes_got got)
  all_given got seats came are alone =
      got_given got (λ p. ⊎_elim (λ below. seats_given got 0 seats came are p (omega arith) (omega (arith, below)))
      (λ past. subst (AllIn IsOf) (sym (alone p past)) tt) (cases_lt p (length seats)))

module _ (exec : Exec) (whole : Chain) where
  block_handed : (block place : ℕ) (envelopes : List Envelope) (flags : List Flag) (rest : List Placed) → AllIn (IsGiven exec whole) envelopes →
      AllHandedOut exec whole rest → AllHandedOut exec whole (transactions_from block place envelopes flags ++ rest)
  block_handed block place [] flags rest all h = h
  block_handed block place (e ∷ es) [] rest all h = h
  block_handed block place (e ∷ es) (f ∷ fs) rest all h = ((λ valid. all.0), block_handed block (suc place) es fs rest all.1 h)

  chain_handed : (block : ℕ) (chain : Chain) → AllInBlocks (IsGiven exec whole) (blocks_of chain) → AllHandedOut exec whole (placed_from block chain)
  chain_handed block [] all = tt
  chain_handed block (c ∷ chain) all =
      block_handed block 0 c.block.envelopes c.flags (placed_from (suc block) chain) all.0 (chain_handed (suc block) chain all.1)

-- all that is in a chain of blocks of such envelopes
pub all_handed : (exec : Exec) (rule : BlockRule) (blocks : List Block) → AllInBlocks (IsGiven exec (judged_chain rule blocks)) blocks →
    AllHandedOut exec (judged_chain rule blocks) (history (judged_chain rule blocks))
all_handed exec rule blocks all =
    let chain = judged_chain rule blocks in
    chain_handed exec chain 1 chain (subst (AllInBlocks (IsGiven exec chain)) (sym (blocks_judged rule blocks)) all)
