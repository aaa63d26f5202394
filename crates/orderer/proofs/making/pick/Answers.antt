use Rattle.std.proofs.Common.{◌≡◌, ◌∷◌, ◌++◌, [], List, take, get_or, Option, Some, None, ap, sym, ◌∙◌, rules}
use Rattle.std.specs.List.{slice_get}
use Rattle.std.specs.Option.{option_to_list}
use Rattle.std.proofs.lemmas.List.{append-nil}
use Rattle.std.proofs.lemmas.Option.{slice_get-get_or, slice_get_past}
use Rattle.fab_types.specs.declared.envelope.Envelope.{Envelope}
use Rattle.orderer.specs.Places.{envelopes_at}
use Rattle.orderer.proofs.Picking.{picked_more}
use Rattle.orderer.proofs.making.pick.Goals.{in-Some+in_ok-clone+in_ok-push, in_default}
use Rattle.orderer.proofs.making.pick.Goals as goal

pub loop-place-preserved : goal.loop-place-preserved
loop-place-preserved c =
    let batch = c.args.batch.now in
    let order = c.args.order.now in
    let i = c.loop-place.place-index in
    let front = envelopes_at batch (take i order) in
    let more = picked_more batch order i 0 c.loop-place-test.true in
    elim c.match-get.branch [
      | in-Some+in_ok-clone+in_ok-push w ↦
          let x = w.in-Some.envelope.now in
          let found = w.in-Some.ensures.lookup in
          let at : slice_get batch (get_or order i 0) ≡ Some x =
          slice_get-get_or batch (get_or order i 0) x found.3.0 ∙ ap (λ (e : Envelope). Some e) (sym found.1) in
          let new : c.match-get.envelopes.items ≡ c.loop-place.envelopes.items ++ x ∷ [] = search rules in
          new ∙ ap (λ (es : List Envelope). es ++ x ∷ []) c.loop-place.invariant ∙ sym (more ∙ ap (λ (o : Option Envelope). front ++ option_to_list o) at)
      | in_default w ↦
          let at : slice_get batch (get_or order i 0) ≡ None = slice_get_past batch (get_or order i 0) w.in_default.ensures.lookup.3 in
          let new : c.match-get.envelopes.items ≡ c.loop-place.envelopes.items = search rules in
          new ∙ c.loop-place.invariant ∙ sym (more ∙ ap (λ (o : Option Envelope). front ++ option_to_list o) at ∙ append-nil front)
    ]
