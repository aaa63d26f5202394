use Rattle.std.proofs.Common.{◌≡◌, ◌<◌, ◌∙◌, ap, sym, refl, Some, length, arith}
use borrow.Author.Count.{below_more}
use Rattle.wasm_ast.specs.declared.module.Export.{Export}
use Rattle.wasm_typing.specs.Typing.{at}
use Rattle.wasm_typing.specs.ModuleRules.{count_of}
use Rattle.wasm_typing.specs.Broken.{Exported}
use Rattle.wasm_typing.proofs.Lists.{item_in, one_more, each_item, at_take, take_at, at_unique}
use Rattle.wasm_typing.proofs.Modules.{names_apart}
use Rattle.wasm_typing.proofs.exports.check_exports.Goals as goal

pub returns-then-export-count_of-clause-broken : goal.returns-then-export-count_of-clause-broken
returns-then-export-count_of-clause-broken c =
    let exports = c.as_slice-exports in
    let item = item_in exports.result.now c.args.given.now.exports c.loop-i.i c.index-exports-i.result exports.ensures c.loop-i-test.true c.index-exports-i.is
    in
    Exported c.loop-i.i c.index-exports-i.result item (omega (arith, c.count_of.ensures))

pub returns-then-is_named-clause-broken : goal.returns-then-is_named-clause-broken
returns-then-is_named-clause-broken c =
    let exports = c.as_slice-exports in
    let item = item_in exports.result.now c.args.given.now.exports c.loop-i.i c.index-exports-i.result exports.ensures c.loop-i-test.true c.index-exports-i.is
    in
    let other = c.if-is_named.ensures.some refl in
    let earlier = at_take exports.result.now c.loop-i.i other.0 other.1 other.2 in
    let apart : other.0 ≡ c.loop-i.i → ⊥ = (λ e. omega (arith, earlier.0, e)) in (
      other.0,
      c.loop-i.i,
      other.1,
      c.index-exports-i.result,
      ap (λ es. at es other.0) (sym exports.ensures) ∙ earlier.1,
      item,
      other.3 ∙
          c.as_str.ensures,
      apart,
    )

pub loop-i-preserved : goal.loop-i-preserved
loop-i-preserved c =
    let exports = c.as_slice-exports in
    let inv = c.loop-i.invariant in
    let export = c.index-exports-i.result in
    let item = item_in exports.result.now c.args.given.now.exports c.loop-i.i export exports.ensures c.loop-i-test.true c.index-exports-i.is in
    let within : export.index < count_of c.args.given.now export.kind = omega (arith, c.count_of.ensures) in
    record {
      exports = one_more (λ (e : Export). e.index < count_of c.args.given.now e.kind) exports.result.now c.args.given.now.exports c.loop-i.i export
          exports.ensures c.loop-i-test.true c.index-exports-i.is within inv.exports;
      names = λ j k d e below hj hk same earlier.
          below_more (λ k. (e : Export) → at c.args.given.now.exports k ≡ Some e → d.name ≡ e.name → j < k → ⊥) c.loop-i.i
          (λ k lt e hk same earlier. inv.names j k d e lt hj hk same earlier) (λ e hk same earlier.
          c.if-is_named.ensures.none refl j d (take_at exports.result.now c.loop-i.i j d earlier (ap (λ es. at es j) exports.ensures ∙ hj))
          (same ∙ ap (λ (e : Export). e.name) (at_unique c.args.given.now.exports c.loop-i.i e export hk item) ∙ sym c.as_str.ensures)) k below e hk same
          earlier;
    }

pub returns-clause-names : goal.returns-clause-names
returns-clause-names c =
    let exports = c.as_slice-exports in
    names_apart c.args.given.now.exports c.loop-i.i (omega (arith, ap length exports.ensures)) c.loop-i.invariant.names

pub loop-i-init : goal.loop-i-init
loop-i-init c = record {
  exports = λ k lt e at. absurd (omega (arith, lt));
  names = λ j k d e lt hj hk same below. absurd (omega (arith, lt));
}

pub returns-clause-exports : goal.returns-clause-exports
returns-clause-exports c =
    let exports = c.as_slice-exports in
    each_item (λ (e : Export). e.index < count_of c.args.given.now e.kind) exports.result.now c.args.given.now.exports c.loop-i.i exports.ensures
    (omega arith) c.loop-i.invariant.exports
