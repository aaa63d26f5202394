use Rattle.std.proofs.Common.{◌≡◌, drop, length}
use Rattle.wasm_meaning.specs.Program.{with_segments}
use Rattle.wasm_instance.proofs.fresh.write_segments.Given as goal

abbrev pub invariant-loop-segment : goal.invariant-loop-segment
invariant-loop-segment l =
    record {
      rest : with_segments l.memory (drop l.segment-index l.segments) ≡ with_segments l.initial.memory l.segments;
      size : length l.memory ≡ length l.initial.memory;
    }
