use Rattle.std.proofs.Common.{◌≡◌, ◌+◌, ◌≤◌, ℕ, List, length, Some, refl, sym, ap, ◌∙◌, subst}
use Rattle.std.proofs.lemmas.Bool.{false≢true}
use Rattle.std.proofs.lemmas.Result.{err_from_is_err_and}
use Rattle.wasm_bytes.specs.Place.{Place, offset_of}
use Rattle.wasm_decode.proofs.FaultLaws.{in_part, part_ends}
use Rattle.wasm_decode.specs.SectionReading.{fill_at}
use Rattle.wasm_decode.proofs.SectionSteps.{sized_short, sized_more, sized_whole}
use Rattle.wasm_decode.proofs.sections.known.Goals as goal

pub returns-in_default-clause-tells : goal.returns-in_default-clause-tells
returns-in_default-clause-tells c =
    rw (c.refuse.ensures, c.offset-offset.ensures) (c.in_ok-size.size, _, c.in_ok-size.ensures.stands.0, tt)

pub returns-in_err-fill-clause-tells : goal.returns-in_err-fill-clause-tells
returns-in_err-fill-clause-tells c =
    let p = err_from_is_err_and c.from_residual-in_err-fill.result c.from_residual-in_err-fill.ensures.1 in
    let old = c.args.cursor.now in
    let mid = c.u32_leb.new.self in
    let content = c.in-Some.content in
    let size = c.in_ok-size.ensures.stands in
    let here = c.in-Some.ensures.front.1 in
    let end : content.end ≡ offset_of mid + c.in_ok-size.size = ap (λ (p : Place). p.end) here in
    let whole : content.whole ≡ old.whole = ap (λ (p : Place). p.whole) here ∙ size.1 in
    let within : content.end ≤ length old.whole = subst (λ bytes. content.end ≤ length bytes) size.1 c.in-Some.ensures.within in
    rw (p.1, p.2) (in_part c.args.profile _ content old whole (part_ends old mid content c.in_ok-size.size size.0 end within) c.in_err-fill.ensures.tells)

pub returns-then-not-is_at_end-clause-tells : goal.returns-then-not-is_at_end-clause-tells
returns-then-not-is_at_end-clause-tells c =
    rw (c.refuse-then-not-is_at_end.ensures, c.offset-offset.ensures) (c.in_ok-size.size, _, c.in_ok-size.ensures.stands.0, tt)

pub returns-clause-sized : goal.returns-clause-sized
returns-clause-sized c = (c.in_ok-size.size, _, c.in_ok-size.ensures.stands.0, c.in-Some.ensures.behind)

pub returns-in_default-clause-read : goal.returns-in_default-clause-read
returns-in_default-clause-read c =
    rw c.refuse.ensures
    (sized_short (fill_at c.args.profile c.args.kind c.args.parts.now) c.args.cursor.now.rest c.u32_leb.new.self.rest c.in_ok-size.size
    c.in_ok-size.ensures.read.0 c.in_default.ensures.front.0)

pub returns-then-not-is_at_end-clause-read : goal.returns-then-not-is_at_end-clause-read
returns-then-not-is_at_end-clause-read c =
    let read = fill_at c.args.profile c.args.kind c.args.parts.now in
    let front = c.in-Some.ensures.front in
    let is = subst (λ (bytes : List ℕ). read bytes ≡ Some (c.fill.new.parts, c.fill.new.cursor.rest)) (ap (λ (p : Place). p.rest) front.1)
    c.in_ok-fill.ensures.read in
    rw c.refuse-then-not-is_at_end.ensures
    (sized_more read c.args.cursor.now.rest c.u32_leb.new.self.rest c.in_ok-size.size c.in_ok-size.ensures.read.0 c.fill.new.parts c.fill.new.cursor.rest
    front.0 is (λ e. false≢true (c.if-not-is_at_end.ensures.1 e)))

pub returns-clause-read : goal.returns-clause-read
returns-clause-read c =
    let read = fill_at c.args.profile c.args.kind c.args.parts.now in
    let front = c.in-Some.ensures.front in
    let is = subst (λ (bytes : List ℕ). read bytes ≡ Some (c.fill.new.parts, c.fill.new.cursor.rest)) (ap (λ (p : Place). p.rest) front.1)
    c.in_ok-fill.ensures.read in
    sized_whole read c.args.cursor.now.rest c.u32_leb.new.self.rest c.in_ok-size.size c.in_ok-size.ensures.read.0 c.fill.new.parts c.fill.new.cursor.rest
    front.0 is (c.if-not-is_at_end.ensures.0 refl) ∙ ap (λ (bytes : List ℕ). Some (c.fill.new.parts, bytes)) (sym (ap (λ (p : Place). p.rest) front.2))
