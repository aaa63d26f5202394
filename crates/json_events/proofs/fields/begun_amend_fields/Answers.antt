use Rattle.std.proofs.Common.{ap, sym, ◌∙◌}
use Rattle.json_fields.proofs.Rests.{members_in, rest}
use Rattle.json_events.proofs.fields.begun_amend_fields.Goals as goal

pub returns-in_err-members : goal.returns-in_err-members
returns-in_err-members c =
    rw c.from_residual-in_err-members.ensures (λ members nonce policy serial peer seat e.
    let head = sym c.if-not-take_word.ensures ∙ ap members_in (sym c.in_ok-left.ensures ∙ e) in
    c.in_err-members.ensures _ _ (ap rest head))

pub returns-in_err-nonce : goal.returns-in_err-nonce
returns-in_err-nonce c =
    rw c.from_residual-in_err-nonce.ensures (λ members nonce policy serial peer seat e.
    let head = sym c.if-not-take_word.ensures ∙ ap members_in (sym c.in_ok-left.ensures ∙ e) in
    let list = sym c.in_ok-members.ensures ∙ ap rest head in
    c.in_err-nonce.ensures _ _ (ap rest list))

pub returns-in_err-peer : goal.returns-in_err-peer
returns-in_err-peer c =
    rw c.from_residual-in_err-peer.ensures (λ members nonce policy serial peer seat e.
    let head = sym c.if-not-take_word.ensures ∙ ap members_in (sym c.in_ok-left.ensures ∙ e) in
    let list = sym c.in_ok-members.ensures ∙ ap rest head in
    c.in_err-peer.ensures _ _ _ (ap rest (sym c.in_ok-nonce.ensures ∙ ap rest list)))

pub returns-in_err-seat : goal.returns-in_err-seat
returns-in_err-seat c =
    rw c.from_residual-in_err-seat.ensures (λ members nonce policy serial peer seat e.
    let head = sym c.if-not-take_word.ensures ∙ ap members_in (sym c.in_ok-left.ensures ∙ e) in
    let list = sym c.in_ok-members.ensures ∙ ap rest head in
    let pair = sym c.in_ok-peer.ensures ∙ ap rest (sym c.in_ok-nonce.ensures ∙ ap rest list) in
    c.in_err-seat.ensures _ _ (ap (λ ms. rest (rest ms)) pair))

pub returns-in_err-serial : goal.returns-in_err-serial
returns-in_err-serial c =
    rw c.from_residual-in_err-serial.ensures (λ members nonce policy serial peer seat e.
    let head = sym c.if-not-take_word.ensures ∙ ap members_in (sym c.in_ok-left.ensures ∙ e) in
    let list = sym c.in_ok-members.ensures ∙ ap rest head in
    let pair = sym c.in_ok-peer.ensures ∙ ap rest (sym c.in_ok-nonce.ensures ∙ ap rest list) in
    let later = sym c.in_ok-seat.ensures ∙ ap (λ ms. rest (rest ms)) pair in
    c.in_err-serial.ensures _ _ (ap rest later))
