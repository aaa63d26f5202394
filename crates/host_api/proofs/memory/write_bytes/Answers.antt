use Rattle.std.proofs.Common.{arith}
use Rattle.wasm_meaning.proofs.Writing.{written-part}
use Rattle.host_api.proofs.memory.write_bytes.Goals as goal

pub returns : goal.returns
returns c =
    written-part c.args.memory.now c.args.bytes.now c.copy_from_slice.new.self c.args.at _ c.requires (omega arith) c.copy_from_slice.ensures.after
