use Rattle.std.proofs.Common.{rules, ◌≡◌, ℕ, ◌+◌, [], ◌∷◌, ◌++◌, Ok, Err, refl, sym, ◌∙◌, ap, subst, arith}
use Rattle.std.proofs.lemmas.List.{append-nil}
use Rattle.intake.specs.declared.sender.SenderSeat.{SenderSeat}
use Rattle.intake.specs.Seats.{intake_of_sender, number, put}
use Rattle.peer_node.specs.Seats.{seen_chain, endorsing_of}
use Rattle.seat_threads.specs.declared.worker.Worker.{Worker}
use Rattle.seat_threads.specs.Rounds.{CameTo, rounds_in, with_endorsed, with_refused}
use Rattle.seat_threads.proofs.Rounding.{HasWorked, next_round}
use Rattle.seat_threads.proofs.Sums.{counted}
use Rattle.seat_threads.proofs.worker.Worker.work.Goals.{in-Ok, in-Err}
use Rattle.seat_threads.proofs.worker.Worker.work.Goals as goal

pub loop-round-init : goal.loop-round-init
loop-round-init g c = record {
  endorser = refl;
  chaincode = refl;
  seat = refl;
  intake_is = refl;
  sender = refl;
  peer = refl;
  outcomes = [];
  came = (refl, refl);
  sent = sym (append-nil (put c.args.self.sender));
  counted = c.none-self.ensures;
}

pub overflow_add-self : goal.overflow_add-self
overflow_add-self g c =
    let h = c.loop-round.invariant in
    let all : rounds_in c.endorse.new.self.counts ≡ c.loop-round.round =
    ap rounds_in (c.endorse.ensures.counts ∙ h.counted) ∙ (counted h.outcomes ∙ h.came.0) in
    omega (arith, all, c.loop-round-test.true, c.ranges.rounds.fits)

pub refuse-requires : goal.refuse-requires
refuse-requires g c =
    let h = c.loop-round.invariant in
    let all : rounds_in c.endorse.new.self.counts ≡ c.loop-round.round =
    ap rounds_in (c.endorse.ensures.counts ∙ h.counted) ∙ (counted h.outcomes ∙ h.came.0) in
    omega (arith, all, c.loop-round-test.true, c.ranges.rounds.fits)

pub loop-round-preserved : goal.loop-round-preserved
loop-round-preserved g c =
    let first = c.args.self in
    let now = c.loop-round.self in
    let round = c.loop-round.round in
    let h = c.loop-round.invariant in
    let same = c.endorse.ensures in
    elim c.match-endorse.branch [
      | in-Ok w ↦ subst (λ (next : Worker). HasWorked first (round + 1) next) (sym w.self-is)
          (next_round first now _ round (Ok w.in-Ok.envelope) h w.in-Ok.ensures.comes same.seat same.same.1 same.same.0
          (w.submit.ensures.same.0 ∙ ap intake_of_sender same.sender) (w.submit.ensures.same.1 ∙ ap number same.sender)
          (w.submit.ensures.put ∙ ap (λ (s : SenderSeat). put s ++ w.in-Ok.envelope ∷ []) same.sender)
          (ap with_endorsed same.counts))
      | in-Err w ↦ subst (λ (next : Worker). HasWorked first (round + 1) next) (sym w.self-is)
          (next_round first now _ round (Err w.in-Err.refusal) h w.in-Err.ensures.comes same.seat same.same.1 same.same.0
          (ap intake_of_sender same.sender) (ap number same.sender)
          (ap put same.sender ∙ sym (append-nil (put now.sender)))
          (w.refuse.ensures ∙ ap (with_refused w.in-Err.refusal) same.counts))
    ]

pub returns : goal.returns
returns g c =
    let first = c.args.self in
    let h = c.loop-round.invariant in
    let end : c.loop-round.round ≡ c.args.rounds = search rules in (
      h.intake_is,
      h.sender,
      h.peer,
      (
        h.outcomes,
        subst (λ (n : ℕ). CameTo (endorsing_of first.seat) first.chaincode first.number n (seen_chain first.seat) (seen_chain c.loop-round.self.seat) h.outcomes)
            end h.came,
        h.sent,
        h.counted,
      ),
    )
