use Rattle.std.proofs.Common.{length, sym, ap, ◌∷◌, ◌∙◌}
use Rattle.hex.specs.Hex.{decode_sized}
use Rattle.key_file.proofs.Lines.{a_line, no_end, no_hex, no_other, no_short}
use Rattle.key_file.proofs.first_key.Goals as goal

pub returns-in_default : goal.returns-in_default
returns-in_default c = no_short c.args.bytes.now c.in_default.ensures.cases

pub returns-in_default-split_first : goal.returns-in_default-split_first
returns-in_default-split_first c =
    no_end c.args.bytes.now (ap length (sym c.in-Some.ensures.cases.1) ∙ c.in_default-split_first.ensures.cases)

pub returns-then-end-ne10 : goal.returns-then-end-ne10
returns-then-end-ne10 c =
    no_other c.args.bytes.now c.in-Some-split_first.end.now c.in-Some-split_first.rest.now
    (sym c.in-Some.ensures.cases.1 ∙ c.in-Some-split_first.ensures.cases.0) c.if-end-ne10.true

pub returns-in_default-from_hex : goal.returns-in_default-from_hex
returns-in_default-from_hex c =
    no_hex c.args.bytes.now c.in_default-from_hex.field-0
    (ap (λ d. decode_sized d 32) (sym c.in-Some.ensures.cases.0) ∙ sym c.from_hex.ensures ∙ c.in_default-from_hex.is)

pub returns : goal.returns
returns c =
    let digits = ap (λ d. decode_sized d 32) (sym c.in-Some.ensures.cases.0) ∙ sym c.from_hex.ensures ∙ c.in-Ok.is in
    let end = c.in-Some-split_first.ensures.cases.0 ∙ ap (λ x. x ∷ c.in-Some-split_first.rest.now) c.if-end-ne10.false in
    rw c.new.ensures (a_line c.args.bytes.now c.in-Some.rest.now c.in-Some-split_first.rest.now c.in-Ok.seed c.in-Some.ensures.cases.1 end digits)
