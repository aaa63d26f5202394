use Rattle.std.proofs.Common.{◌≡◌, ◌<◌, ℕ, Some}
use Rattle.wasm_ast.specs.declared.types.Limits.{Limits}
use Rattle.wasm_typing.specs.Typing.{at}
use Rattle.wasm_typing.specs.ModuleRules.{IsTable}
use Rattle.wasm_typing.proofs.limits.check_tables.Given as goal

abbrev pub invariant-loop-limits : goal.invariant-loop-limits
invariant-loop-limits l =
    (k : ℕ) → k < l.limits-index → (m : Limits) → at l.given.tables k ≡ Some m → IsTable m
