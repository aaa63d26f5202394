-- What a worker that has ended came to.
use Rattle.std.proofs.Common.{◌≡◌, ℕ, ◌+◌, ◌++◌, List, [], ◌∷◌, ◌∙◌, ap, ap₂, subst, append_assoc, arith}
use Rattle.fab_types.specs.declared.envelope.Envelope.{Envelope}
use Rattle.ledger_model.specs.Chain.{Bytes, Chain}
use mathlib.Core.List.{IsPrefix}
use Rattle.snapshot_cell.proofs.Fronts.{prefix_trans}
use Rattle.peer_node.specs.Seats.{seen_chain, peer_of, endorsing_of}
use Rattle.intake.specs.Seats.{intake_of_sender, number, put}
use Rattle.endorser.specs.Endorsing.{Endorsing}
use Rattle.seat_threads.specs.declared.worker.Worker.{Worker}
use Rattle.seat_threads.specs.Rounds.{Outcome, CameTo, envelopes_in, counts_of}
use Rattle.seat_threads.specs.Work.{Task, Home, AllCameTo, Works, IsWorkerOf, puts_of}

pub record HasEnded (task : Task) (home : Home) (seat : ℕ) (w : Worker) : Type 0 where
  pub intake_is : intake_of_sender w.sender ≡ home.intake
  pub peer_is : peer_of w.seat ≡ home.peer
  pub outcomes : List Outcome
  pub came : CameTo task.endorsing task.chaincode seat task.rounds [] (seen_chain w.seat) outcomes
  pub sender : number w.sender ≡ seat
  pub sent : put w.sender ≡ envelopes_in outcomes
  pub counted : w.counts ≡ counts_of outcomes

pub has_ended : (task : Task) (home : Home) (seat rounds : ℕ) (old new : Worker) → IsWorkerOf task home seat old → rounds ≡ task.rounds →
    Works rounds old new → HasEnded task home seat new
has_ended task home seat rounds old new is all work =
    let outcomes = work.3.0 in
    let last = seen_chain new.seat in
    let unseen = subst (λ (c : Chain). CameTo (endorsing_of old.seat) old.chaincode old.number rounds c last outcomes) is.unseen work.3.1 in
    let endorsed = subst (λ (e : Endorsing). CameTo e old.chaincode old.number rounds [] last outcomes) is.endorser unseen in
    let called = subst (λ (c : Bytes). CameTo task.endorsing c old.number rounds [] last outcomes) is.chaincode endorsed in
    let seated = subst (λ (n : ℕ). CameTo task.endorsing task.chaincode n rounds [] last outcomes) is.seat_is called in
    let came = subst (λ (n : ℕ). CameTo task.endorsing task.chaincode seat n [] last outcomes) all seated in
    record {
      intake_is = work.0 ∙ is.intake_is;
      peer_is = work.2 ∙ is.peer_is;
      outcomes = outcomes;
      came = came;
      sender = work.1 ∙ is.sender;
      sent = work.3.2 ∙ ap (λ (es : List Envelope). es ++ envelopes_in outcomes) is.fresh;
      counted = work.3.3;
    }

-- what the seats saw begins a longer list too
pub came_before : (task : Task) (part whole : Chain) (seat : ℕ) (seats : List (List Outcome)) → IsPrefix part whole → AllCameTo task part seat seats →
    AllCameTo task whole seat seats
came_before task part whole seat [] more came = tt
came_before task part whole seat (outcomes ∷ others) more came = (
  (came.0.0, came.0.1, prefix_trans came.0.0 part whole came.0.2 more),
  came_before task part whole (seat + 1) others more came.1,
)

-- the worker at the last place is that of the next seat
pub next_seat : (task : Task) (home : Home) (seats place next : ℕ) (w : Worker) → (seat : ℕ) × (place + seat + 1 ≡ seats) × IsWorkerOf task home seat w →
    place + 1 + next ≡ seats → IsWorkerOf task home next w
next_seat task home seats place next w h e =
    let same : h.0 ≡ next = omega (arith, h.1, e) in subst (λ (n : ℕ). IsWorkerOf task home n w) same h.2

-- one seat more is known
pub known_more : (known now next : List (ℕ × List Envelope)) (seat left n : ℕ) (sent : List Envelope) (outcomes : List Outcome) (others : List (List Outcome))
    → next ≡ now ++ (n, sent) ∷ [] → now ≡ known ++ puts_of left others → left ≡ seat + 1 → n ≡ seat → sent ≡ envelopes_in outcomes →
    next ≡ known ++ puts_of seat (outcomes ∷ others)
known_more known now next seat left n sent outcomes others more was longer number_is sent_is =
    more ∙ (ap₂ (λ (l : List (ℕ × List Envelope)) (x : ℕ × List Envelope). l ++ x ∷ []) (was ∙ ap (λ (k : ℕ). known ++ puts_of k others) longer)
    (λ i. (number_is i, sent_is i))
    ∙ append_assoc known (puts_of (seat + 1) others) ((seat, envelopes_in outcomes) ∷ []))
