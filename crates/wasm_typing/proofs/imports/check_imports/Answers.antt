use Rattle.std.proofs.Common.{◌+◌, ◌++◌, ◌∙◌, ap, drop}
use Rattle.std.proofs.lemmas.Result.{err_from_is_err_and}
use Rattle.wasm_typing.specs.HostCalls.{host_calls}
use Rattle.wasm_typing.specs.ModuleRules.{IsValidImport}
use Rattle.wasm_typing.proofs.Lists.{item_in, one_more, each_item}
use Rattle.wasm_typing.proofs.Modules.{calls_next}
use Rattle.wasm_typing.proofs.imports.check_imports.Goals as goal

pub loop-import-preserved : goal.loop-import-preserved
loop-import-preserved c =
    let items = c.as_slice-import-items in
    let imports = c.args.given.now.imports in
    let import = c.import-item.result in
    record {
      calls = ap (λ cs. cs ++ host_calls (drop (c.loop-import.import-index + 1) imports)) c.in_ok-push.ensures.items ∙
          calls_next items.result.now imports c.loop-import.import-index import c.in_ok-check_import.field-0 c.loop-import.calls.items items.ensures
          c.loop-import-test.true c.import-item.is c.in_ok-check_import.ensures.call ∙ c.loop-import.invariant.calls;
      imports = one_more (IsValidImport c.args.given.now.types) items.result.now imports c.loop-import.import-index import items.ensures c.loop-import-test.true
          c.import-item.is c.in_ok-check_import.ensures.listed c.loop-import.invariant.imports;
    }

pub returns-clause-imports : goal.returns-clause-imports
returns-clause-imports c =
    let items = c.as_slice-import-items in
    each_item (IsValidImport c.args.given.now.types) items.result.now c.args.given.now.imports c.loop-import.import-index items.ensures c.loop-import-test.false
    c.loop-import.invariant.imports

pub returns-in_err-check_import-clause-broken : goal.returns-in_err-check_import-clause-broken
returns-in_err-check_import-clause-broken c =
    let items = c.as_slice-import-items in
    let p = err_from_is_err_and c.from_residual.result c.from_residual.ensures.1 in
    rw (p.1, p.2) (c.in_err-check_import.ensures.broken c.loop-import.import-index
    (item_in items.result.now c.args.given.now.imports c.loop-import.import-index c.import-item.result items.ensures c.loop-import-test.true c.import-item.is))
