use Rattle.std.proofs.Common.{ap, sym, ◌∙◌}
use Rattle.json_fields.proofs.Rests.{members_in, rest}
use Rattle.json_events.proofs.fields.upgrade_fields.Goals as goal

pub returns-in_err-policy : goal.returns-in_err-policy
returns-in_err-policy c =
    rw c.from_residual-in_err-policy.ensures (λ fuel digest nonce policy profile chaincode e.
    let pair = sym c.in_ok-fuel.ensures ∙ ap members_in (sym c.in_ok-left.ensures ∙ e) in
    c.in_err-policy.ensures _ _ (ap rest (sym c.in_ok-nonce.ensures ∙ ap (λ ms. rest (rest ms)) pair)))

pub returns-in_err-profile : goal.returns-in_err-profile
returns-in_err-profile c =
    rw c.from_residual-in_err-profile.ensures (λ fuel digest nonce policy profile chaincode e.
    let pair = sym c.in_ok-fuel.ensures ∙ ap members_in (sym c.in_ok-left.ensures ∙ e) in
    let later = sym c.in_ok-policy.ensures ∙ ap rest (sym c.in_ok-nonce.ensures ∙ ap (λ ms. rest (rest ms)) pair) in
    c.in_err-profile.ensures _ _ _ (ap rest later))
