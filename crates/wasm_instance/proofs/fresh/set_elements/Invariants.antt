use Rattle.std.proofs.Common.{◌≡◌, drop}
use Rattle.wasm_meaning.specs.Program.{with_elements}
use Rattle.wasm_instance.proofs.fresh.set_elements.Given as goal

abbrev pub invariant-loop-segment : goal.invariant-loop-segment
invariant-loop-segment l = with_elements l.table (drop l.segment-index l.segments) ≡ with_elements l.initial.table l.segments
