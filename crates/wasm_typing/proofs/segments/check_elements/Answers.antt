use Rattle.std.proofs.lemmas.Result.{err_from_is_err_and}
use Rattle.wasm_typing.specs.ModuleRules.{IsElement}
use Rattle.wasm_typing.proofs.Lists.{item_in, one_more, each_item}
use Rattle.wasm_typing.proofs.segments.check_elements.Goals as goal

pub returns-in_err-check_element-clause-broken : goal.returns-in_err-check_element-clause-broken
returns-in_err-check_element-clause-broken c =
    let items = c.as_slice-segment-items in
    let p = err_from_is_err_and c.from_residual.result c.from_residual.ensures.1 in
    rw (p.1, p.2) (c.in_err-check_element.ensures.broken c.loop-segment.segment-index
    (item_in items.result.now c.args.given.now.elements c.loop-segment.segment-index c.segment-item.result items.ensures
    c.loop-segment-test.true c.segment-item.is))

pub loop-segment-preserved : goal.loop-segment-preserved
loop-segment-preserved c =
    let items = c.as_slice-segment-items in
    one_more (IsElement c.args.given.now) items.result.now c.args.given.now.elements c.loop-segment.segment-index c.segment-item.result
    items.ensures c.loop-segment-test.true c.segment-item.is c.in_ok-check_element.ensures.inside c.loop-segment.invariant

pub returns-clause-inside : goal.returns-clause-inside
returns-clause-inside c =
    let items = c.as_slice-segment-items in
    each_item (IsElement c.args.given.now) items.result.now c.args.given.now.elements c.loop-segment.segment-index
    items.ensures c.loop-segment-test.false c.loop-segment.invariant
