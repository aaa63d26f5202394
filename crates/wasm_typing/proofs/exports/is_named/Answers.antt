use Rattle.std.proofs.Common.{◌≡◌, ◌≢◌, ◌∙◌, sym, refl, true≢false}
use Rattle.std.proofs.lemmas.Slice.Eq.{bytes_eq-Decides}
use Rattle.wasm_ast.specs.declared.module.Export.{Export}
use Rattle.wasm_typing.proofs.Lists.{at_index, one_more, each_item}
use Rattle.wasm_typing.proofs.exports.is_named.Goals as goal

pub returns-then-eq-clause-some : goal.returns-then-eq-clause-some
returns-then-eq-clause-some c _ =
    let same : c.as_str.result.now ≡ c.args.name.now = (bytes_eq-Decides c.as_str.result.now c.args.name.now).0 (sym c.eq.ensures ∙ c.if-eq.true) in (
      c.loop-export.export-index,
      c.export-item.result,
      at_index c.args.exports.now c.loop-export.export-index c.export-item.result c.loop-export-test.true c.export-item.is,
      sym c.as_str.ensures ∙ same,
    )

pub loop-export-preserved : goal.loop-export-preserved
loop-export-preserved c =
    let other : c.export-item.result.name ≢ c.args.name.now =
    (λ e. true≢false (sym ((bytes_eq-Decides c.as_str.result.now c.args.name.now).1 (c.as_str.ensures ∙ e)) ∙ sym c.eq.ensures ∙ c.if-eq.false)) in
    one_more (λ (e : Export). e.name ≢ c.args.name.now) c.args.exports.now c.args.exports.now c.loop-export.export-index c.export-item.result refl
    c.loop-export-test.true c.export-item.is other c.loop-export.invariant

pub returns-clause-none : goal.returns-clause-none
returns-clause-none c _ =
    each_item (λ (e : Export). e.name ≢ c.args.name.now) c.args.exports.now c.args.exports.now c.loop-export.export-index refl c.loop-export-test.false
    c.loop-export.invariant
