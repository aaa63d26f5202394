use Rattle.std.proofs.Common.{◌≡◌, ◌+◌, ◌≤◌, length, ap, ◌∙◌, subst}
use Rattle.std.proofs.lemmas.Result.{err_from_is_err_and}
use Rattle.wasm_bytes.specs.Place.{Place, offset_of}
use Rattle.wasm_decode.specs.declared.fault.DecodeFault.TheVariants.{Malformed}
use Rattle.wasm_decode.specs.FaultNumbers.{kind_of}
use Rattle.wasm_decode.proofs.FaultLaws.{in_part, part_ends, of_bytes}
use Rattle.wasm_decode.proofs.sections.custom.Goals as goal

pub returns-in_default-clause-tells : goal.returns-in_default-clause-tells
returns-in_default-clause-tells c =
    rw (c.refuse.ensures, c.offset-offset.ensures) (λ profile. (c.in_ok-size.size, _, c.in_ok-size.ensures.stands.0, tt))

pub returns-in_err-name-clause-tells : goal.returns-in_err-name-clause-tells
returns-in_err-name-clause-tells c =
    let p = err_from_is_err_and c.from_residual-in_err-name.result c.from_residual-in_err-name.ensures.1 in
    let old = c.args.cursor.now in
    let mid = c.u32_leb.new.self in
    let content = c.in-Some.content in
    let size = c.in_ok-size.ensures.stands in
    let here = c.in-Some.ensures.front.1 in
    let end : content.end ≡ offset_of mid + c.in_ok-size.size = ap (λ (p : Place). p.end) here in
    let whole : content.whole ≡ old.whole = ap (λ (p : Place). p.whole) here ∙ size.1 in
    let within : content.end ≤ length old.whole = subst (λ bytes. content.end ≤ length bytes) size.1 c.in-Some.ensures.within in
    rw (p.1, p.2) (λ profile. in_part profile (Malformed (kind_of c.in_err-name.field-0.0.kind) c.in_err-name.field-0.0.offset) content old whole
    (part_ends old mid content c.in_ok-size.size size.0 end within)
    (of_bytes profile c.in_err-name.field-0.0.kind c.in_err-name.field-0.0.offset content.end content.whole c.in_err-name.ensures.stands))

pub returns-clause-sized : goal.returns-clause-sized
returns-clause-sized c = (c.in_ok-size.size, _, c.in_ok-size.ensures.stands.0, c.in-Some.ensures.behind)
