use Rattle.std.proofs.Common.{◌≡◌, ◌<◌, ◌++◌, ℕ, Some, drop, map, length}
use Rattle.wasm_ast.specs.declared.module.Func.{Func}
use Rattle.wasm_typing.specs.Typing.{at}
use Rattle.wasm_typing.specs.ModuleRules.{type_indices}
use Rattle.wasm_typing.proofs.imports.function_indices.Given as goal

abbrev pub invariant-loop-function : goal.invariant-loop-function
invariant-loop-function l =
    record {
      indices : l.indices.items ++ map (λ (f : Func). f.type_index) (drop l.function-index l.given.functions) ≡ type_indices l.given;
      known : (k : ℕ) →
          k < l.function-index → (f : Func) → at l.given.functions k ≡ Some f → f.type_index < length l.given.types;
    }
