use Rattle.std.proofs.Common.{ap, sym, ◌∙◌}
use Rattle.json_fields.proofs.Rests.{members_in, rest}
use Rattle.json_events.proofs.fields.amend_fields.Goals as goal

pub returns-in_err-nonce : goal.returns-in_err-nonce
returns-in_err-nonce c =
    rw c.from_residual-in_err-nonce.ensures (λ members nonce policy serial e.
    let list = sym c.in_ok-members.ensures ∙ ap members_in (sym c.in_ok-left.ensures ∙ e) in
    c.in_err-nonce.ensures _ _ (ap rest list))

pub returns-in_err-policy : goal.returns-in_err-policy
returns-in_err-policy c =
    rw c.from_residual-in_err-policy.ensures (λ members nonce policy serial e.
    let list = sym c.in_ok-members.ensures ∙ ap members_in (sym c.in_ok-left.ensures ∙ e) in
    c.in_err-policy.ensures _ _ (ap rest (sym c.in_ok-nonce.ensures ∙ ap rest list)))

pub returns-in_err-serial : goal.returns-in_err-serial
returns-in_err-serial c =
    rw c.from_residual-in_err-serial.ensures (λ members nonce policy serial e.
    let list = sym c.in_ok-members.ensures ∙ ap members_in (sym c.in_ok-left.ensures ∙ e) in
    let later = sym c.in_ok-policy.ensures ∙ ap rest (sym c.in_ok-nonce.ensures ∙ ap rest list) in
    c.in_err-serial.ensures _ _ (ap rest later))
