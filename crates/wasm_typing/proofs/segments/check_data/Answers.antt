use Rattle.std.proofs.lemmas.Result.{err_from_is_err_and}
use Rattle.wasm_typing.specs.ModuleRules.{IsData}
use Rattle.wasm_typing.proofs.Lists.{item_in, one_more, each_item}
use Rattle.wasm_typing.proofs.segments.check_data.Goals as goal

pub returns-in_err-check_data_segment-clause-broken : goal.returns-in_err-check_data_segment-clause-broken
returns-in_err-check_data_segment-clause-broken c =
    let items = c.as_slice-segment-items in
    let p = err_from_is_err_and c.from_residual.result c.from_residual.ensures.1 in
    rw (p.1, p.2) (c.in_err-check_data_segment.ensures.broken c.loop-segment.segment-index
    (item_in items.result.now c.args.given.now.data c.loop-segment.segment-index c.segment-item.result items.ensures
    c.loop-segment-test.true c.segment-item.is))

pub loop-segment-preserved : goal.loop-segment-preserved
loop-segment-preserved c =
    let items = c.as_slice-segment-items in
    one_more (IsData c.args.given.now) items.result.now c.args.given.now.data c.loop-segment.segment-index c.segment-item.result
    items.ensures c.loop-segment-test.true c.segment-item.is c.in_ok-check_data_segment.ensures.inside c.loop-segment.invariant

pub returns-clause-inside : goal.returns-clause-inside
returns-clause-inside c =
    let items = c.as_slice-segment-items in
    each_item (IsData c.args.given.now) items.result.now c.args.given.now.data c.loop-segment.segment-index
    items.ensures c.loop-segment-test.false c.loop-segment.invariant
