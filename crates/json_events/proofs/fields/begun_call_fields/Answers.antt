use Rattle.std.proofs.Common.{ap, sym, ◌∙◌}
use Rattle.json_fields.proofs.Rests.{members_in, rest}
use Rattle.json_events.proofs.Arguments.{in_order}
use Rattle.json_events.proofs.fields.begun_call_fields.Goals as goal

pub returns-in_err-arg : goal.returns-in_err-arg
returns-in_err-arg c =
    rw c.from_residual-in_err-arg.ensures (λ arg chaincode nonce peer seat e.
    c.in_err-arg.ensures _ _ (ap members_in (sym c.in_ok-left.ensures ∙ e ∙ in_order peer seat arg chaincode nonce)))

pub returns-in_err-chaincode : goal.returns-in_err-chaincode
returns-in_err-chaincode c =
    rw c.from_residual-in_err-chaincode.ensures (λ arg chaincode nonce peer seat e.
    let head = sym c.in_ok-arg.ensures ∙ ap members_in (sym c.in_ok-left.ensures ∙ e ∙ in_order peer seat arg chaincode nonce) in
    c.in_err-chaincode.ensures _ _ (ap rest head))
