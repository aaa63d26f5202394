use Rattle.std.proofs.Common.{◌≡◌, ◌<◌, ℕ, Some}
use Rattle.wasm_typing.specs.Typing.{at}
use Rattle.wasm_typing.proofs.segments.are_below.Given as goal

abbrev pub invariant-loop-index : goal.invariant-loop-index
invariant-loop-index l = (k : ℕ) → k < l.index-index → (i : ℕ) → at l.indices k ≡ Some i → i < l.count
