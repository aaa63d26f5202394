use Rattle.std.proofs.Common.{◌^◌}
use Rattle.grammar.specs.Laws.Wholes.{spells_once}
use Rattle.wasm_bytes.specs.Laws.Leb.{unsigned_reads, signed_reads}
use Rattle.wasm_bytes.specs.Laws.Names.{name_reads}
use Rattle.wasm_bytes.proofs.laws.items_once.Goals as goal

pub returns : goal.returns
returns c = record {
  u32 = spells_once _ _ (unsigned_reads (2 ^ 32));
  i32 = spells_once _ _ (signed_reads (2 ^ 31));
  i64 = spells_once _ _ (signed_reads (2 ^ 63));
  name = spells_once _ _ name_reads;
}
