use Rattle.std.proofs.Common.{ap, sym, ◌∙◌}
use Rattle.json_fields.proofs.Rests.{members_in, rest}
use Rattle.json_questions.proofs.fields.range_fields.Goals as goal

pub returns-in_err-below : goal.returns-in_err-below
returns-in_err-below c =
    rw c.from_residual-in_err-below.ensures (λ below limit from e.
    let head = sym c.if-not-take_word.ensures ∙ ap members_in (sym c.in_ok-left.ensures ∙ e) in
    c.in_err-below.ensures _ _ (ap rest head))

pub returns-in_err-limit : goal.returns-in_err-limit
returns-in_err-limit c =
    rw c.from_residual-in_err-limit.ensures (λ below limit from e.
    let head = sym c.if-not-take_word.ensures ∙ ap members_in (sym c.in_ok-left.ensures ∙ e) in
    c.in_err-limit.ensures _ _ (ap rest (sym c.in_ok-below.ensures ∙ ap rest head)))

pub returns-in_err-from : goal.returns-in_err-from
returns-in_err-from c =
    rw c.from_residual-in_err-from.ensures (λ below limit from e.
    let head = sym c.if-not-take_word.ensures ∙ ap members_in (sym c.in_ok-left.ensures ∙ e) in
    let later = sym c.in_ok-below.ensures ∙ ap rest head in
    c.in_err-from.ensures _ _ (ap rest (sym c.in_ok-limit.ensures ∙ ap rest later)))
