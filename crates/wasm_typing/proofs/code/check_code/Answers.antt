use Rattle.std.proofs.lemmas.Result.{err_from_is_err_and}
use Rattle.wasm_typing.specs.ModuleRules.{IsFunction}
use Rattle.wasm_typing.proofs.Lists.{item_in, one_more, each_item}
use Rattle.wasm_typing.proofs.Functions.{own_type}
use Rattle.wasm_typing.proofs.code.check_code.Goals as goal

pub check_function-requires-clause-has_type : goal.check_function-requires-clause-has_type
check_function-requires-clause-has_type c =
    let items = c.as_slice-function-items in
    own_type c.args.given.now c.args.functions.now c.loop-function.function-index c.function-item.result c.requires.indices c.requires.known
    (item_in items.result.now c.args.given.now.functions c.loop-function.function-index c.function-item.result items.ensures.same c.loop-function-test.true
    c.function-item.is)

pub loop-function-preserved : goal.loop-function-preserved
loop-function-preserved c =
    let items = c.as_slice-function-items in
    one_more (IsFunction c.args.given.now) items.result.now c.args.given.now.functions c.loop-function.function-index c.function-item.result items.ensures.same
    c.loop-function-test.true c.function-item.is c.in_ok-check_function.ensures.typed c.loop-function.invariant

pub returns-clause-typed : goal.returns-clause-typed
returns-clause-typed c =
    let items = c.as_slice-function-items in
    each_item (IsFunction c.args.given.now) items.result.now c.args.given.now.functions c.loop-function.function-index items.ensures.same
    c.loop-function-test.false c.loop-function.invariant

pub returns-in_err-check_function-clause-broken : goal.returns-in_err-check_function-clause-broken
returns-in_err-check_function-clause-broken c =
    let items = c.as_slice-function-items in
    let p = err_from_is_err_and c.from_residual.result c.from_residual.ensures.1 in
    rw (p.1, p.2) (c.in_err-check_function.ensures.broken c.loop-function.function-index
    (item_in items.result.now c.args.given.now.functions c.loop-function.function-index c.function-item.result items.ensures.same c.loop-function-test.true
    c.function-item.is))
