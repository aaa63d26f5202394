use Rattle.std.proofs.Common.{arith}
use Rattle.wasm_instance.proofs.Front.{padded_resized}
use Rattle.wasm_instance.proofs.memory.laid_out.Goals as goal

pub returns-clause-memory : goal.returns-clause-memory
returns-clause-memory c =
    padded_resized c.args.size c.min-rounded.result c.args.front.len c.args.front.items c.resize.new.self.items _ c.args.front.ok.0 (omega arith) (omega arith)
    c.resize.ensures.items
