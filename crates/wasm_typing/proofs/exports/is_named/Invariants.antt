use Rattle.std.proofs.Common.{◌≡◌, ◌≢◌, ◌<◌, ℕ, Some}
use Rattle.wasm_ast.specs.declared.module.Export.{Export}
use Rattle.wasm_typing.specs.Typing.{at}
use Rattle.wasm_typing.proofs.exports.is_named.Given as goal

abbrev pub invariant-loop-export : goal.invariant-loop-export
invariant-loop-export l =
    (k : ℕ) → k < l.export-index → (e : Export) → at l.exports k ≡ Some e → e.name ≢ l.name
