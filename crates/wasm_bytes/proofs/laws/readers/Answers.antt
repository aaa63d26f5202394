use Rattle.std.proofs.Common.{◌^◌}
use Rattle.wasm_bytes.specs.Laws.Leb.{unsigned_reads, signed_reads}
use Rattle.wasm_bytes.specs.Laws.Names.{name_reads}
use Rattle.wasm_bytes.proofs.laws.readers.Goals as goal

pub returns : goal.returns
returns c = record { u32 = unsigned_reads (2 ^ 32); i32 = signed_reads (2 ^ 31); i64 = signed_reads (2 ^ 63); name = name_reads }
