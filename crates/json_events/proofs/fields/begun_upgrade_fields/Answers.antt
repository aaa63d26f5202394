use Rattle.std.proofs.Common.{ap, sym, ◌∙◌}
use Rattle.json_fields.proofs.Rests.{members_in, rest}
use Rattle.json_events.proofs.fields.begun_upgrade_fields.Goals as goal

pub returns-in_err-peer : goal.returns-in_err-peer
returns-in_err-peer c =
    rw c.from_residual-in_err-peer.ensures (λ fuel digest nonce policy profile chaincode peer seat e.
    let head = sym c.if-not-take_word.ensures ∙ ap members_in (sym c.in_ok-left.ensures ∙ e) in
    let pair = sym c.in_ok-fuel.ensures ∙ ap rest head in
    c.in_err-peer.ensures _ _ _ (ap rest (sym c.in_ok-nonce.ensures ∙ ap (λ ms. rest (rest ms)) pair)))

pub returns-in_err-profile : goal.returns-in_err-profile
returns-in_err-profile c =
    rw c.from_residual-in_err-profile.ensures (λ fuel digest nonce policy profile chaincode peer seat e.
    let head = sym c.if-not-take_word.ensures ∙ ap members_in (sym c.in_ok-left.ensures ∙ e) in
    let pair = sym c.in_ok-fuel.ensures ∙ ap rest head in
    let later = sym c.in_ok-peer.ensures ∙ ap rest (sym c.in_ok-nonce.ensures ∙ ap (λ ms. rest (rest ms)) pair) in
    c.in_err-profile.ensures _ _ (ap (λ ms. rest (rest ms)) later))

pub returns-in_err-seat : goal.returns-in_err-seat
returns-in_err-seat c =
    rw c.from_residual-in_err-seat.ensures (λ fuel digest nonce policy profile chaincode peer seat e.
    let head = sym c.if-not-take_word.ensures ∙ ap members_in (sym c.in_ok-left.ensures ∙ e) in
    let pair = sym c.in_ok-fuel.ensures ∙ ap rest head in
    let later = sym c.in_ok-peer.ensures ∙ ap rest (sym c.in_ok-nonce.ensures ∙ ap (λ ms. rest (rest ms)) pair) in
    c.in_err-seat.ensures _ _ _ (ap rest (sym c.in_ok-profile.ensures ∙ ap (λ ms. rest (rest ms)) later)))
