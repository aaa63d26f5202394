use Rattle.std.proofs.Common.{◌≡◌, ◌<◌, ℕ, Some}
use Rattle.wasm_ast.specs.declared.module.Export.{Export}
use Rattle.wasm_typing.specs.Typing.{at}
use Rattle.wasm_typing.specs.ModuleRules.{count_of}
use Rattle.wasm_typing.proofs.exports.check_exports.Given as goal

abbrev pub invariant-loop-i : goal.invariant-loop-i
invariant-loop-i l =
    record {
      exports : (k : ℕ) → k < l.i → (e : Export) → at l.given.exports k ≡ Some e → e.index < count_of l.given e.kind;
      names : (j : ℕ) → (k : ℕ) →
          (d : Export) → (e : Export) → k < l.i → at l.given.exports j ≡ Some d → at l.given.exports k ≡ Some e → d.name ≡ e.name → j < k → ⊥;
    }
