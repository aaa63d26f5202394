use Rattle.std.proofs.Common.{◌≡◌, ◌-◌, ◌<◌, length, [], None, refl, sym, ◌∙◌, arith, rules}
use Rattle.std.proofs.lemmas.Result.{err_from_is_err_and}
use Rattle.wasm_decode.specs.SectionReading.{section_at, sections_at}
use Rattle.wasm_decode.proofs.Loop.{Fails-weaker}
use Rattle.wasm_decode.proofs.Walks.{another, none_more, all_read}
use Rattle.wasm_decode.proofs.sections.sections.Goals as goal

pub sections-init : goal.sections-init
sections-init c =
    (length c.args.cursor.now.rest, omega arith, refl, search rules, c.requires.few, ([], c.requires.start, refl))

pub returns-in_err-last-clause-read : goal.returns-in_err-last-clause-read
returns-in_err-last-clause-read c =
    let l = c.sections in
    let total = sections_at c.args.profile (length c.args.cursor.now.rest) 0 c.args.parts.now c.args.cursor.now.rest in
    let some : ¬ (l.cursor.rest ≡ []) = grind arith in
    let p = err_from_is_err_and c.from_residual.result c.from_residual.ensures.1 in
    rw (p.1, p.2) (Fails-weaker c.in_err-last.field-0.0 (section_at c.args.profile l.last l.parts l.cursor.rest ≡ None) (total ≡ None)
    (λ e. sym l.invariant.2 ∙ none_more c.args.profile l.invariant.0 l.last l.parts l.cursor.rest some e) c.in_err-last.ensures.read)

pub sections-preserved : goal.sections-preserved
sections-preserved c =
    let l = c.sections in
    let n = l.invariant.0 in
    let after = c.section.new.cursor.rest in
    let less : length after < length l.cursor.rest = c.in_ok-last.ensures.shorter in
    let same = another c.args.profile n l.last l.parts l.cursor.rest c.in_ok-last.last c.section.new.parts after less l.invariant.1 c.in_ok-last.ensures.read in
    (n - 1, omega (arith, l.invariant.1), sym same ∙ l.invariant.2, search rules, omega (arith, less, l.invariant.4), c.in_ok-last.ensures.behind)

pub returns-clause-read : goal.returns-clause-read
returns-clause-read c =
    let l = c.sections in
    let over : l.cursor.rest ≡ [] = grind arith in
    sym l.invariant.2 ∙ all_read c.args.profile l.invariant.0 l.last l.parts l.cursor.rest over
