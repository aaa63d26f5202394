use Rattle.std.proofs.Common.{◌≡◌, drop}
use Rattle.wasm_decode.specs.FunctionReading.{codes_at}
use Rattle.grammar.specs.Laws.Loops.{with_front}
use Rattle.wasm_decode.specs.Faults.{Kept}
use Rattle.wasm_decode.proofs.functions.codes.Given as goal

abbrev pub invariant-loop-type_index : goal.invariant-loop-type_index
invariant-loop-type_index l = record {
  read : with_front l.functions.items (codes_at l.profile (drop l.type_index-index l.type_indices) l.cursor.rest) ≡
      codes_at l.profile l.type_indices l.fn.cursor.rest;
  kept : Kept l.fn.cursor l.cursor;
}
