use Rattle.std.proofs.Common.{sym, true≢false}
use Rattle.wasm_typing.specs.ModuleRules.{IsTable}
use Rattle.wasm_typing.specs.Broken.{Table}
use Rattle.wasm_typing.proofs.Lists.{at_get, each_item}
use Rattle.wasm_typing.proofs.limits.check_tables.Goals as goal

pub returns-then-not-are_ordered-clause-broken : goal.returns-then-not-are_ordered-clause-broken
returns-then-not-are_ordered-clause-broken c =
    let items = c.as_slice-limits-items in
    Table c.loop-limits.limits-index _ (at_get items.result.now c.args.given.now.tables c.loop-limits.limits-index _ items.ensures c.loop-limits-test.true)
    (λ v. true≢false (sym (c.if-not-are_ordered.ensures.1 v)))

pub returns-clause-limits : goal.returns-clause-limits
returns-clause-limits c =
    let items = c.as_slice-limits-items in
    each_item IsTable items.result.now c.args.given.now.tables c.loop-limits.limits-index items.ensures c.loop-limits-test.false c.loop-limits.invariant
