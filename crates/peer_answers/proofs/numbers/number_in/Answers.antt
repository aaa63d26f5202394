use Rattle.std.proofs.Common.{◌≡◌, ℕ, List, Some, None, sym, ap, ◌∙◌}
use Rattle.std.specs.Prelude.{slice_get}
use Rattle.peer_answers.proofs.Numerals.{none_empty, none_small, number_parsed}
use Rattle.peer_answers.proofs.numbers.number_in.Goals as goal

pub returns-in_err-first : goal.returns-in_err-first
returns-in_err-first c =
    let e : slice_get c.args.digits.now 0 ≡ None = ap (λ (ds : List ℕ). slice_get ds 0) (sym c.as_bytes.ensures.value) ∙ sym c.in_err-first.ensures.value in
    rw c.from_residual.ensures (none_empty c.args.digits.now e)

pub returns-then-first-lt49 : goal.returns-then-first-lt49
returns-then-first-lt49 c =
    let b = c.in_ok-first.field-0.now in
    let e : slice_get c.args.digits.now 0 ≡ Some b = ap (λ (ds : List ℕ). slice_get ds 0) (sym c.as_bytes.ensures.value) ∙ sym c.in_ok-first.ensures.value in
    none_small c.args.digits.now b e c.if-first-lt49.true

pub returns : goal.returns
returns c =
    let b = c.in_ok-first.field-0.now in
    let e : slice_get c.args.digits.now 0 ≡ Some b = ap (λ (ds : List ℕ). slice_get ds 0) (sym c.as_bytes.ensures.value) ∙ sym c.in_ok-first.ensures.value in
    rw c.ok.ensures.value (number_parsed c.args.digits.now b c.parse.result e c.if-first-lt49.false c.parse.ensures.value.0)
