use Rattle.std.proofs.Common.{◌≡◌, ◌+◌, List, length, sym, ap, ◌∙◌, subst, ⊎_elim, rules, slice_get, Some}
use Rattle.intake.specs.declared.rule.View.{View}
use Rattle.intake.specs.declared.sender.SenderSeat.{SenderSeat}
use Rattle.intake.specs.Mail.{receiver}
use Rattle.intake.specs.Seats.{knows, IsFresh}
use Rattle.intake.proofs.Mails.{begins, last_or, all_at}
use Rattle.intake.proofs.opening.Intake.open.Goals as goal

pub ruled-requires-clause-rule : goal.ruled-requires-clause-rule
ruled-requires-clause-rule c = begins

pub loop-index-preserved : goal.loop-index-preserved
loop-index-preserved c =
    let inv = c.loop-index.invariant in
    let same = c.in_ok-seat.ensures.same in
    let count : (knows c.loop-index.receiver).senders ≡ c.args.senders = ap (λ (v : View). v.senders) inv.1 in
    let seat = c.in_ok-seat.ensures.seat in (
      search rules,
      c.in_ok-seat.ensures.made ∙ ap (λ (v : View). receiver v.senders (c.loop-index.index + 1) v.got v.known) inv.1,
      same.1 ∙ inv.2,
      λ k s e. ⊎_elim (λ (h : slice_get c.loop-index.seats.items k ≡ Some s). let t = inv.3 k s h in (t.0 ∙ sym same.0, t.1 ∙ sym same.1, t.2, t.3, t.4))
          (λ (h : (k ≡ length c.loop-index.seats.items) × (c.in_ok-seat.seat ≡ s)). subst (λ (y : SenderSeat). IsFresh c.hire.new.self c.args.senders k y) h.1
          (seat.0 ∙ sym same.0, seat.1 ∙ sym same.1, seat.2 ∙ count, seat.3 ∙ (sym inv.0 ∙ sym h.0), seat.4))
          (last_or c.loop-index.seats.items c.in_ok-seat.seat s k (subst (λ (l : List SenderSeat). slice_get l k ≡ Some s) c.in_ok-push.ensures.items e)),
    )

pub returns-clause-of : goal.returns-clause-of
returns-clause-of c = all_at _ _ (λ k s e. (c.loop-index.invariant.3 k s e).0)
