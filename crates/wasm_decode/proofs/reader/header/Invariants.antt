use Rattle.std.proofs.Common.{◌≡◌, ◌≤◌, drop}
use Rattle.grammar.specs.Reading.{text_at}
use Rattle.wasm_decode.specs.ModuleReading.{header_bytes}
use Rattle.wasm_decode.specs.Faults.{Kept}
use Rattle.wasm_bytes.specs.Place.{offset_of}
use Rattle.wasm_decode.proofs.reader.header.Given as goal

abbrev pub invariant-loop-expected : goal.invariant-loop-expected
invariant-loop-expected l = record {
  read : text_at (drop l.expected-index header_bytes) l.cursor.rest ≡ text_at header_bytes l.fn.cursor.rest;
  kept : Kept l.fn.cursor l.cursor;
  offset : offset_of l.cursor ≡ l.expected-index;
  within : l.expected-index ≤ 8;
}
