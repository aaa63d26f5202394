use Rattle.std.proofs.Common.{◌++◌, ◌∷◌, [], List, take, sym, ap, ◌∙◌, subst, append-nil}
use Rattle.std.specs.List.{flat_map}
use Rattle.std.proofs.lemmas.List.{flat_map_more, take_more, take_all}
use Rattle.sha2.specs.Hashers.{Holds256}
use Rattle.fab_types.specs.declared.envelope.Envelope.{Envelope}
use Rattle.fab_types.specs.BlockSpelling.{sized_bytes}
use Rattle.wire.proofs.encode.feed_each_sized.Goals as goal

pub loop-envelope-init : goal.loop-envelope-init
loop-envelope-init c = λ front held. subst (Holds256 c.args.hasher.now) (sym (append-nil front)) held

pub loop-envelope-preserved : goal.loop-envelope-preserved
loop-envelope-preserved c =
    let es = c.args.envelopes.now in
    let i = c.loop-envelope.envelope-index in
    let e = c.envelope-item.result in
    let one_more = take_more es i e c.loop-envelope-test.true ∙ ap (λ (x : Envelope). take i es ++ x ∷ []) (sym c.envelope-item.is) in
    λ front held.
    subst (Holds256 c.feed_sized.new.hasher)
    (flat_map_more sized_bytes front (take i es) e ∙ ap (λ (t : List Envelope). front ++ flat_map sized_bytes t) (sym one_more))
    (c.in_ok-feed_sized.ensures (front ++ flat_map sized_bytes (take i es)) (c.loop-envelope.invariant front held))

pub returns : goal.returns
returns c =
    let es = c.args.envelopes.now in
    λ front held.
    subst (λ (t : List Envelope). Holds256 c.loop-envelope.hasher (front ++ flat_map sized_bytes t))
    (take_all c.loop-envelope.envelope-index es c.loop-envelope-test.false) (c.loop-envelope.invariant front held)
