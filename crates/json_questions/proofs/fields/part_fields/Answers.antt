use Rattle.std.proofs.Common.{ap, sym, ◌∙◌}
use Rattle.json_fields.proofs.Rests.{members_in, rest}
use Rattle.json_questions.proofs.fields.part_fields.Goals as goal

pub returns-in_err-blocks : goal.returns-in_err-blocks
returns-in_err-blocks c =
    rw c.from_residual-in_err-blocks.ensures (λ blocks from key e.
    let head = sym c.if-not-take_word.ensures ∙ ap members_in (sym c.in_ok-left.ensures ∙ e) in
    c.in_err-blocks.ensures _ _ (ap rest head))

pub returns-in_err-from : goal.returns-in_err-from
returns-in_err-from c =
    rw c.from_residual-in_err-from.ensures (λ blocks from key e.
    let head = sym c.if-not-take_word.ensures ∙ ap members_in (sym c.in_ok-left.ensures ∙ e) in
    c.in_err-from.ensures _ _ (ap rest (sym c.in_ok-blocks.ensures ∙ ap rest head)))

pub returns-in_err-key : goal.returns-in_err-key
returns-in_err-key c =
    rw c.from_residual-in_err-key.ensures (λ blocks from key e.
    let head = sym c.if-not-take_word.ensures ∙ ap members_in (sym c.in_ok-left.ensures ∙ e) in
    let later = sym c.in_ok-blocks.ensures ∙ ap rest head in
    c.in_err-key.ensures _ _ (ap rest (sym c.in_ok-from.ensures ∙ ap rest later)))
