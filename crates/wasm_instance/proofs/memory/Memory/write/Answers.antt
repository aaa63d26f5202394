use Rattle.std.proofs.Common.{arith}
use Rattle.wasm_instance.proofs.Lent.{written_in_place}
use Rattle.wasm_instance.proofs.memory.Memory.write.Goals as goal

pub returns : goal.returns
returns c =
    written_in_place c.args.self.now c.front.result.now c.args.bytes.now c.write.new.memory c.args.place c.front.ensures.value
    (omega (arith, c.front.ensures.reaches, c.requires)) c.write.ensures
