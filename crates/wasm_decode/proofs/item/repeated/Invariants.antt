use Rattle.std.proofs.Common.{◌≡◌, ◌-◌}
use Rattle.grammar.specs.Reading.{repeats_at}
use Rattle.grammar.specs.Laws.Loops.{with_front}
use Rattle.wasm_decode.specs.Faults.{Kept}
use Rattle.wasm_decode.proofs.item.repeated.Given as goal

abbrev pub invariant-loop : goal.invariant-loop
invariant-loop g l = record {
  read : with_front l.items.items (repeats_at (g.T.Item.reads l.profile) (l.count - l.counter) l.cursor.rest) ≡
      repeats_at (g.T.Item.reads l.profile) l.count l.fn.cursor.rest;
  kept : Kept l.fn.cursor l.cursor;
}
