use Rattle.std.proofs.Common.{◌≡◌, ◌<◌, ℕ, Some}
use Rattle.wasm_ast.specs.declared.module.ElementSegment.{ElementSegment}
use Rattle.wasm_typing.specs.Typing.{at}
use Rattle.wasm_typing.specs.ModuleRules.{IsElement}
use Rattle.wasm_typing.proofs.segments.check_elements.Given as goal

abbrev pub invariant-loop-segment : goal.invariant-loop-segment
invariant-loop-segment l =
    (k : ℕ) → k < l.segment-index → (e : ElementSegment) → at l.given.elements k ≡ Some e → IsElement l.given e
