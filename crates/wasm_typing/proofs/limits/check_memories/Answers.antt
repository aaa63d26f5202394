use Rattle.std.proofs.Common.{sym, true≢false}
use Rattle.wasm_typing.specs.ModuleRules.{IsMemory}
use Rattle.wasm_typing.specs.Broken.{Memory}
use Rattle.wasm_typing.proofs.Lists.{at_get, each_item}
use Rattle.wasm_typing.proofs.limits.check_memories.Goals as goal

pub returns-then-not-are_pages-clause-broken : goal.returns-then-not-are_pages-clause-broken
returns-then-not-are_pages-clause-broken c =
    let items = c.as_slice-limits-items in
    Memory c.loop-limits.limits-index _ (at_get items.result.now c.args.given.now.memories c.loop-limits.limits-index _ items.ensures c.loop-limits-test.true)
    (λ v. true≢false (sym (c.if-not-are_pages.ensures.1 v)))

pub returns-clause-limits : goal.returns-clause-limits
returns-clause-limits c =
    let items = c.as_slice-limits-items in
    each_item IsMemory items.result.now c.args.given.now.memories c.loop-limits.limits-index items.ensures c.loop-limits-test.false c.loop-limits.invariant
