use Rattle.std.proofs.Common.{ap, sym, ◌∙◌}
use Rattle.json_fields.proofs.Rests.{members_in, rest}
use Rattle.json_questions.proofs.fields.satisfied_fields.Goals as goal

pub returns-in_err-chaincode : goal.returns-in_err-chaincode
returns-in_err-chaincode c =
    rw c.from_residual-in_err-chaincode.ensures (λ chaincode orgs e.
    let head = sym c.if-not-take_word.ensures ∙ ap members_in (sym c.in_ok-left.ensures ∙ e) in
    c.in_err-chaincode.ensures _ _ (ap rest head))

pub returns-in_err-orgs : goal.returns-in_err-orgs
returns-in_err-orgs c =
    rw c.from_residual-in_err-orgs.ensures (λ chaincode orgs e.
    let head = sym c.if-not-take_word.ensures ∙ ap members_in (sym c.in_ok-left.ensures ∙ e) in
    c.in_err-orgs.ensures _ _ (ap rest (sym c.in_ok-chaincode.ensures ∙ ap rest head)))
