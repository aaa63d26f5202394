-- What a seat saw only grows, whatever its rounds come to.
use Rattle.std.proofs.Common.{◌≡◌, ◌⊎◌, ℕ, ◌+◌, ◌++◌, List, [], ◌∷◌, length, Result, Ok, Err, refl, sym, subst, ⊎_elim, inl, inr, arith}
use mathlib.Core.List.{IsPrefix}
use Rattle.fab_types.specs.declared.proposal.Proposal.{Proposal}
use Rattle.fab_types.specs.Payloads.{Payload}
use Rattle.fab_types.specs.declared.envelope.Endorsement.{Endorsement}
use Rattle.ledger_model.specs.Chain.{Bytes, Chain}
use Rattle.simulator.specs.declared.refusal.SimRefusal.TheVariants.{UnknownChaincode, NotInstalled, BadPolicy, BadMembership, Trapped, Spent, Status, Stale, Memory}
use Rattle.snapshot_cell.proofs.Fronts.{prefix_self, prefix_trans}
use Rattle.endorser.specs.Endorsing.{Endorsing}
use Rattle.peer_node.specs.declared.refusal.FinishRefusal.{FinishRefusal}
use Rattle.peer_node.specs.declared.refusal.FinishRefusal.TheVariants.{Simulation, NotEntered}
use Rattle.peer_node.specs.Seats.{Endorses, FinishesBy}
use Rattle.seat_threads.specs.Rounds.{Outcome, proposal_of, ComesTo, ComeInTurn}

-- of two beginnings of one list the one begins the other
pub one_begins : {A : Type 0} (a b whole : List A) → IsPrefix a whole → IsPrefix b whole → IsPrefix a b ⊎ IsPrefix b a
one_begins [] b whole p q = inl (b, refl)
one_begins (x ∷ a) [] whole p q = inr (x ∷ a, refl)
one_begins (x ∷ a) (y ∷ b) [] p q = absurd (cc (p.1))
one_begins (x ∷ a) (y ∷ b) (z ∷ whole) p q =
    let heads : x ≡ y = cc (p.1, q.1) in
    ⊎_elim (λ r. inl (r.0, cc (heads, r.1))) (λ r. inr (r.0, cc (heads, r.1))) (one_begins a b whole (p.0, cc (p.1)) (q.0, cc (q.1)))

-- nothing new was seen
same_grows : (before after : Chain) → after ≡ before → IsPrefix before after
same_grows before after same = subst (λ (c : Chain). IsPrefix before c) (sym same) (prefix_self before)

finish_grows : (e : Endorsing) (p : Proposal) (first before after : Chain) (r : Result (Payload × Endorsement) FinishRefusal) →
    FinishesBy e p first before after r → IsPrefix before after
finish_grows e p first before after (Ok answer) h = h.1
finish_grows e p first before after (Err (Simulation Stale)) h = h.2
finish_grows e p first before after (Err (Simulation Memory)) h = ⊎_elim (λ same. same_grows before after same) (λ more. more.1) h
finish_grows e p first before after (Err (Simulation UnknownChaincode)) h = same_grows before after h.1
finish_grows e p first before after (Err (Simulation NotInstalled)) h = same_grows before after h.1
finish_grows e p first before after (Err (Simulation BadPolicy)) h = same_grows before after h.1
finish_grows e p first before after (Err (Simulation BadMembership)) h = same_grows before after h.1
finish_grows e p first before after (Err (Simulation (Trapped kind used))) h = same_grows before after h.1
finish_grows e p first before after (Err (Simulation Spent)) h = same_grows before after h.1
finish_grows e p first before after (Err (Simulation (Status n))) h = same_grows before after h.1
finish_grows e p first before after (Err NotEntered) h = same_grows before after h.1

pub endorses_grows : (e : Endorsing) (p : Proposal) (before after : Chain) (r : Result (Payload × Endorsement) FinishRefusal) →
    Endorses e p before after r → IsPrefix before after
endorses_grows e p before after r h =
    ⊎_elim (λ none. same_grows before after none.2)
    (λ made. prefix_trans before made.0 after made.1 (finish_grows e p made.0 made.0 after r made.2)) h

pub comes_grows : (e : Endorsing) (p : Proposal) (before after : Chain) (outcome : Outcome) → ComesTo e p before after outcome → IsPrefix before after
comes_grows e p before after (Ok x) h = endorses_grows e p before after (Ok (x.payload, h.0)) h.1
comes_grows e p before after (Err r) h = ⊎_elim (λ refused. endorses_grows e p before after (Err r) refused) (λ memory. memory.1) h

pub turn_grows : (e : Endorsing) (chaincode : Bytes) (seat round : ℕ) (before after : Chain) (outcomes : List Outcome) →
    ComeInTurn e chaincode seat round before after outcomes → IsPrefix before after
turn_grows e chaincode seat round before after [] h = same_grows before after h
turn_grows e chaincode seat round before after (outcome ∷ outcomes) h =
    prefix_trans before h.0 after h.1 (turn_grows e chaincode seat (round + 1) h.0 after outcomes h.3)

-- one round more
pub turn_more : (e : Endorsing) (chaincode : Bytes) (seat round : ℕ) (before now after : Chain) (outcomes : List Outcome) (outcome : Outcome) →
    ComeInTurn e chaincode seat round before now outcomes → ComesTo e (proposal_of chaincode seat (round + length outcomes)) now after outcome →
    ComeInTurn e chaincode seat round before after (outcomes ++ outcome ∷ [])
turn_more e chaincode seat round before now after [] outcome same comes =
    let first : round + 0 ≡ round = omega arith in
    let here : ComesTo e (proposal_of chaincode seat round) now after outcome =
    subst (λ (n : ℕ). ComesTo e (proposal_of chaincode seat n) now after outcome) first comes in
    subst (λ (c : Chain). ComeInTurn e chaincode seat round c after (outcome ∷ [])) same
    (after, comes_grows e (proposal_of chaincode seat round) now after outcome here, here, refl)
turn_more e chaincode seat round before now after (next ∷ outcomes) outcome h comes =
    let place : round + length (next ∷ outcomes) ≡ round + 1 + length outcomes = omega arith in
    let last = subst (λ (n : ℕ). ComesTo e (proposal_of chaincode seat n) now after outcome) place comes in
    (h.0, h.1, h.2, turn_more e chaincode seat (round + 1) h.0 now after outcomes outcome h.3 last)
