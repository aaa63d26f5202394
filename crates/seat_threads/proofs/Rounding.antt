-- A worker after some of its rounds, and after one more.
use Rattle.std.proofs.Common.{◌≡◌, ℕ, ◌+◌, ◌++◌, List, [], ◌∷◌, length, length-append, append_assoc, sym, ◌∙◌, ap, subst, arith}
use Rattle.std.proofs.lemmas.List.Sums.{fold-append}
use Rattle.ledger_model.specs.Chain.{Bytes, Chain}
use Rattle.intake.specs.Seats.{intake_of_sender, number, put}
use Rattle.endorser.specs.Endorsing.{Endorsing}
use Rattle.peer_node.specs.Seats.{seen_chain, peer_of, endorsing_of}
use Rattle.seat_threads.specs.declared.counts.Counts.{Counts}
use Rattle.seat_threads.specs.declared.worker.Worker.{Worker}
use Rattle.seat_threads.specs.Rounds.{Outcome, ComesTo, CameTo, proposal_of, envelopes_in, counts_of, no_rounds, with_outcome}
use Rattle.seat_threads.proofs.Growing.{turn_more}
use Rattle.seat_threads.proofs.Sums.{envelopes-append}

pub record HasWorked (first : Worker) (round : ℕ) (w : Worker) : Type 0 where
  pub endorser : endorsing_of w.seat ≡ endorsing_of first.seat
  pub chaincode : w.chaincode ≡ first.chaincode
  pub seat : w.number ≡ first.number
  pub peer : peer_of w.seat ≡ peer_of first.seat
  pub intake_is : intake_of_sender w.sender ≡ intake_of_sender first.sender
  pub sender : number w.sender ≡ number first.sender
  pub outcomes : List Outcome
  pub came : CameTo (endorsing_of first.seat) first.chaincode first.number round (seen_chain first.seat) (seen_chain w.seat) outcomes
  pub sent : put w.sender ≡ put first.sender ++ envelopes_in outcomes
  pub counted : w.counts ≡ counts_of outcomes

-- what a round of a seat comes to
abbrev pub Comes : Endorsing → Bytes → (seat round : ℕ) → (before after : Chain) → Outcome → Type 0
Comes e chaincode seat round before after outcome = ComesTo e (proposal_of chaincode seat round) before after outcome

pub next_round : (first now next : Worker) (round : ℕ) (outcome : Outcome) → HasWorked first round now
    → Comes (endorsing_of now.seat) now.chaincode now.number round (seen_chain now.seat) (seen_chain next.seat) outcome
    → (endorsing_of next.seat ≡ endorsing_of now.seat) × (peer_of next.seat ≡ peer_of now.seat) → next.chaincode ≡ now.chaincode →
    next.number ≡ now.number → intake_of_sender next.sender ≡ intake_of_sender now.sender → number next.sender ≡ number now.sender →
    put next.sender ≡ put now.sender ++ envelopes_in (outcome ∷ []) → next.counts ≡ with_outcome now.counts outcome → HasWorked first (round + 1) next
next_round first now next round outcome h comes same chaincode seat intake_is sender sent counted =
    let e = endorsing_of first.seat in
    let before = seen_chain now.seat in
    let after = seen_chain next.seat in
    let one = subst (λ (w : Endorsing). Comes w now.chaincode now.number round before after outcome) h.endorser comes in
    let two = subst (λ (c : Bytes). Comes e c now.number round before after outcome) h.chaincode one in
    let here = subst (λ (n : ℕ). Comes e first.chaincode n round before after outcome) h.seat two in
    let count : round ≡ 0 + length h.outcomes = omega (arith, h.came.0) in
    let last = subst (λ (n : ℕ). Comes e first.chaincode first.number n before after outcome) count here in
    record {
      endorser = same.0 ∙ h.endorser;
      chaincode = chaincode ∙ h.chaincode;
      seat = seat ∙ h.seat;
      peer = same.1 ∙ h.peer;
      intake_is = intake_is ∙ h.intake_is;
      sender = sender ∙ h.sender;
      outcomes = h.outcomes ++ outcome ∷ [];
      came = (
        omega (arith, length-append h.outcomes (outcome ∷ []), h.came.0),
        turn_more e first.chaincode first.number 0 (seen_chain first.seat) before after h.outcomes outcome h.came.1 last,
      );
      sent = sent ∙ (ap (λ es. es ++ envelopes_in (outcome ∷ [])) h.sent ∙
          (append_assoc (put first.sender) (envelopes_in h.outcomes) (envelopes_in (outcome ∷ []))
          ∙ ap (λ es. put first.sender ++ es) (sym (envelopes-append h.outcomes (outcome ∷ [])))));
      counted =
          counted ∙ (ap (λ (c : Counts). with_outcome c outcome) h.counted ∙ sym (fold-append with_outcome no_rounds h.outcomes (outcome ∷ [])));
    }
