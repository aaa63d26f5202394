use Rattle.std.proofs.Common.{◌≡◌, ◌<◌, ℕ, Some}
use Rattle.wasm_ast.specs.declared.module.Global.{Global}
use Rattle.wasm_typing.specs.Typing.{at}
use Rattle.wasm_typing.specs.ModuleRules.{IsValidGlobal}
use Rattle.wasm_typing.proofs.globals.check_globals.Given as goal

abbrev pub invariant-loop-global : goal.invariant-loop-global
invariant-loop-global l =
    (k : ℕ) → k < l.global-index → (g : Global) → at l.given.globals k ≡ Some g → IsValidGlobal g
