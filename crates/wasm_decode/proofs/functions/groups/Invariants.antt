use Rattle.std.proofs.Common.{◌≡◌, ◌-◌}
use Rattle.wasm_decode.specs.FunctionReading.{groups_at}
use Rattle.grammar.specs.Laws.Loops.{with_front}
use Rattle.wasm_decode.specs.Faults.{Kept}
use Rattle.wasm_decode.proofs.functions.groups.Given as goal

abbrev pub invariant-loop : goal.invariant-loop
invariant-loop l = record {
  read : with_front l.locals.items (groups_at l.room (l.count - l.counter) l.cursor.rest) ≡ groups_at 192 l.count l.fn.cursor.rest;
  kept : Kept l.fn.cursor l.cursor;
}
