use Rattle.std.proofs.Common.{◌≡◌, ◌+◌, ◌-◌, ◌++◌, length, take, drop, sym, ap, ◌∙◌, subst, arith, rules}
use Rattle.std.proofs.lemmas.List.{length-drop, take-append-drop}
use Rattle.wasm_bytes.specs.Place.{Place, offset_of}
use Rattle.wasm_bytes.proofs.Places.{fits_after}
use Rattle.wasm_bytes.proofs.cursor.Cursor.split.Goals as goal

pub invariant_of-self : goal.invariant_of-self
invariant_of-self c =
    let inside = c.self.inside in
    let back : c.split_at.result.1.now ≡ drop c.args.len inside.rest.now = search rules in
    fits_after inside.whole.now inside.end inside.rest.now (take c.args.len inside.rest.now) c.split_at.result.1.now c.self.invariant
    (sym (take-append-drop c.args.len inside.rest.now) ∙ ap (λ r. take c.args.len inside.rest.now ++ r) (sym back))

pub returns-clause-behind : goal.returns-clause-behind
returns-clause-behind c =
    let inside = c.self.inside in
    let left = c.split_at.result.1.now in
    let back : left ≡ drop c.args.len inside.rest.now = search rules in
    let long : length left ≡ length inside.rest.now - c.args.len = ap length back ∙ length-drop c.args.len inside.rest.now in
    subst (λ (p : Place). inside.end - length left ≡ offset_of p + c.args.len) c.self.view_is (omega (arith, long, c.self.invariant.0))
