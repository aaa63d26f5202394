use Rattle.std.proofs.lemmas.Result.{err_from_is_err_and}
use Rattle.wasm_typing.specs.ModuleRules.{IsValidGlobal}
use Rattle.wasm_typing.proofs.Lists.{item_in, one_more, each_item}
use Rattle.wasm_typing.proofs.globals.check_globals.Goals as goal

pub returns-in_err-check_global-clause-broken : goal.returns-in_err-check_global-clause-broken
returns-in_err-check_global-clause-broken c =
    let items = c.as_slice-global-items in
    let p = err_from_is_err_and c.from_residual.result c.from_residual.ensures.1 in
    rw (p.1, p.2) (c.in_err-check_global.ensures.broken c.loop-global.global-index
    (item_in items.result.now c.args.given.now.globals c.loop-global.global-index c.global-item.result items.ensures c.loop-global-test.true c.global-item.is))

pub loop-global-preserved : goal.loop-global-preserved
loop-global-preserved c =
    let items = c.as_slice-global-items in
    one_more IsValidGlobal items.result.now c.args.given.now.globals c.loop-global.global-index c.global-item.result items.ensures c.loop-global-test.true
    c.global-item.is c.in_ok-check_global.ensures.constant c.loop-global.invariant

pub returns-clause-constant : goal.returns-clause-constant
returns-clause-constant c =
    let items = c.as_slice-global-items in
    each_item IsValidGlobal items.result.now c.args.given.now.globals c.loop-global.global-index items.ensures c.loop-global-test.false c.loop-global.invariant
