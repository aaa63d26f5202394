use Rattle.std.proofs.Common.{◌≡◌, ◌∷◌, [], ◌++◌, List, sym, ◌∙◌, ap, subst}
use Rattle.std.proofs.lemmas.List.{map-append}
use Rattle.fab_types.specs.declared.envelope.Envelope.{Envelope}
use Rattle.intake.specs.declared.receiver.ReceiverSeat.{ReceiverSeat}
use Rattle.intake.specs.declared.rule.Parcel.{Parcel}
use Rattle.intake.specs.Seats.{knows}
use Rattle.seat_threads.specs.Desks.{HasOrdered, envelopes_got}
use Rattle.seat_threads.proofs.desk.Desk.take_rest.Goals as goal

pub takes-preserved : goal.takes-preserved
takes-preserved g c =
    let inv = c.takes.invariant in
    let desk = c.order.new.self in
    let order = c.order.ensures in
    let take = c.take.ensures.same in
    let before = (knows c.takes.self.receiver).got in
    let more = c.in-Some-take.ensures.got in
    let parcel : Parcel = record { from = more.0; envelope = c.in-Some-take.envelope } in
    let got : envelopes_got (knows desk.receiver).got ≡ envelopes_got before ++ c.in-Some-take.envelope ∷ [] =
    ap (λ (r : ReceiverSeat). envelopes_got (knows r).got) order.receiver ∙
    (ap envelopes_got more.1 ∙ map-append (λ (p : Parcel). p.envelope) before (parcel ∷ [])) in
    let ordered = subst (λ (es : List Envelope). HasOrdered es desk) (sym got) (order.ordered (envelopes_got before) inv.0.2) in (
      (order.step.0, order.step.1, ordered),
      (
        order.same.0 ∙ (take.0.0 ∙ inv.1.0),
        order.same.1 ∙ inv.1.1,
        order.same.2 ∙ inv.1.2,
        order.same.3 ∙ inv.1.3,
        order.same.4 ∙ inv.1.4,
        order.same.5 ∙ inv.1.5,
      ),
      ap (λ (r : ReceiverSeat). (knows r).known) order.receiver ∙ (take.2 ∙ inv.2),
      ap (λ (r : ReceiverSeat). (knows r).senders) order.receiver ∙ (take.1 ∙ inv.3),
    )
