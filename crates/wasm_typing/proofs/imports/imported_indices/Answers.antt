use Rattle.std.proofs.Common.{◌+◌, ◌++◌, ◌∙◌, refl, ap, sym, ℕ, List, drop, length, Vec, Global, arith}
use Rattle.std.proofs.lemmas.List.{append-nil, at_drop_all}
use Rattle.std.proofs.lemmas.Result.{err_from_is_err_and}
use Rattle.wasm_typing.specs.ModuleRules.{imported_functions}
use Rattle.wasm_typing.proofs.Modules.{indices_next, indices_skip}
use Rattle.wasm_typing.proofs.imports.imported_indices.Goals.{in-Function+in_ok-push, in_default}
use Rattle.wasm_typing.proofs.imports.imported_indices.Goals as goal

pub loop-import-preserved : goal.loop-import-preserved
loop-import-preserved c =
    let items = c.as_slice-import-items in
    let imports = c.args.given.now.imports in
    let index = c.loop-import.import-index in
    let import = c.import-item.result in
    let before : List ℕ → List ℕ = λ is. is ++ imported_functions (drop (index + 1) imports) in
    elim c.match-import.branch [
      | in-Function+in_ok-push w ↦ ap (λ (v : Vec ℕ Global). before v.items) w.indices-is ∙ ap before w.in_ok-push.ensures.items ∙
          indices_next items.result.now imports index import w.in-Function.type_index c.loop-import.indices.items items.ensures
          c.loop-import-test.true c.import-item.is w.in-Function.is ∙ c.loop-import.invariant
      | in_default w ↦ ap (λ (v : Vec ℕ Global). before v.items) w.indices-is ∙
          ap (λ is. c.loop-import.indices.items ++ is)
          (indices_skip items.result.now imports index import items.ensures c.loop-import-test.true c.import-item.is w.in_default.not-Function) ∙
          c.loop-import.invariant
    ]

pub returns-in_err-push-clause-fault : goal.returns-in_err-push-clause-fault
returns-in_err-push-clause-fault c =
    let p = err_from_is_err_and c.from_residual.result c.from_residual.ensures.1 in
    rw (p.1, p.2) refl

pub returns-clause-indices : goal.returns-clause-indices
returns-clause-indices c =
    let items = c.as_slice-import-items in
    let indices = c.loop-import.indices.items in
    let none = at_drop_all imported_functions c.args.given.now.imports c.loop-import.import-index
    (omega (arith, c.loop-import-test.false, ap length items.ensures)) in
    sym (append-nil indices) ∙ ap (λ is. indices ++ is) (sym none) ∙ c.loop-import.invariant
