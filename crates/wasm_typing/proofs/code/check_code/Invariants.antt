use Rattle.std.proofs.Common.{◌≡◌, ◌<◌, ℕ, Some}
use Rattle.wasm_ast.specs.declared.module.Func.{Func}
use Rattle.wasm_typing.specs.Typing.{at}
use Rattle.wasm_typing.specs.ModuleRules.{IsFunction}
use Rattle.wasm_typing.proofs.code.check_code.Given as goal

abbrev pub invariant-loop-function : goal.invariant-loop-function
invariant-loop-function l =
    (k : ℕ) → k < l.function-index → (f : Func) → at l.given.functions k ≡ Some f → IsFunction l.given f
