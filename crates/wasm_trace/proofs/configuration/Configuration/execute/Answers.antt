use Rattle.wasm_trace.proofs.Plain.{becomes}
use Rattle.wasm_trace.proofs.configuration.Configuration.execute.Goals as goal

pub operate-requires-clause-becomes : goal.operate-requires-clause-becomes
operate-requires-clause-becomes g c =
    becomes c.args.instr.now c.in_default.not-Block c.in_default.not-Loop c.in_default.not-If c.in_default.not-Br c.in_default.not-Return
