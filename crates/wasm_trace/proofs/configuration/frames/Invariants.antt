use Rattle.std.proofs.Common.{◌≡◌, ◌≤◌, take}
use Rattle.wasm_trace.specs.Context.{frames}
use Rattle.wasm_trace.specs.View.{layers}
use Rattle.wasm_trace.proofs.configuration.frames.Given as goal

abbrev pub invariant-loop-i : goal.invariant-loop-i
invariant-loop-i l = (l.count ≡ frames (layers (take l.i l.levels))) × (l.count ≤ l.i)
