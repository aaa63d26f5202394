use Rattle.std.proofs.Common.{◌≡◌, ℕ, ◌+◌, ◌<◌, List, [], ◌∷◌, ◌++◌, length, get_or, drop, ap, sym, ◌∙◌, append_assoc}
use Rattle.std.proofs.lemmas.List.{at_drop_more}
use Rattle.wire.specs.Ids.{id_of}
use Rattle.ledger_model.specs.Chain.{Bytes, Envelope}
use Rattle.world_state.specs.Ids.{ids_of}
use Rattle.world_state.proofs.ids.tx_ids.Goals as goal

one_more : (es : List Envelope) (i : ℕ) (e : Envelope) (ids : List Bytes) (id : Bytes) → i < length es → e ≡ get_or es i e → id ≡ id_of e.payload.proposal →
    ids ++ ids_of (drop i es) ≡ ids_of es → (ids ++ id ∷ []) ++ ids_of (drop (i + 1) es) ≡ ids_of es
one_more es i e ids id h is made inv =
    append_assoc ids (id ∷ []) (ids_of (drop (i + 1) es))
    ∙ ap (λ x. ids ++ x ∷ ids_of (drop (i + 1) es)) made
    ∙ ap (λ (x : Envelope). ids ++ ids_of (x ∷ drop (i + 1) es)) is
    ∙ ap (λ l. ids ++ l) (sym (at_drop_more ids_of es i e h))
    ∙ inv

pub loop-envelope-preserved : goal.loop-envelope-preserved
loop-envelope-preserved c =
    rw c.in_ok-push.ensures.items
    (one_more c.as_slice-envelopes.result.now c.loop-envelope.envelope-index c.envelope-item.result c.loop-envelope.ids.items _ c.loop-envelope-test.true
    c.envelope-item.is c.payload_id.ensures c.loop-envelope.invariant)
