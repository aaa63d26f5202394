use Rattle.std.proofs.Common.{ap, sym, ◌∙◌}
use Rattle.json_fields.proofs.Rests.{members_in, rest}
use Rattle.json_genesis.proofs.fields.chaincode_fields.Goals as goal

pub returns-in_err-policy : goal.returns-in_err-policy
returns-in_err-policy c =
    rw c.from_residual-in_err-policy.ensures (λ fuel hex name policy profile e.
    let all = ap members_in (sym c.in_ok-left.ensures ∙ e) in
    let second = ap rest (sym c.in_ok-fuel.ensures ∙ all) in
    let third = ap rest (sym c.in_ok-hex.ensures ∙ second) in
    c.in_err-policy.ensures _ _ (ap rest (sym c.in_ok-name.ensures ∙ third)))

pub returns-in_err-profile : goal.returns-in_err-profile
returns-in_err-profile c =
    rw c.from_residual-in_err-profile.ensures (λ fuel hex name policy profile e.
    let all = ap members_in (sym c.in_ok-left.ensures ∙ e) in
    let second = ap rest (sym c.in_ok-fuel.ensures ∙ all) in
    let third = ap rest (sym c.in_ok-hex.ensures ∙ second) in
    let fourth = ap rest (sym c.in_ok-name.ensures ∙ third) in
    c.in_err-profile.ensures _ _ (ap rest (sym c.in_ok-policy.ensures ∙ fourth)))
