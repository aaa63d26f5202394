use Rattle.wasm_decode.proofs.ModuleTheorem.{at_most_one}
use Rattle.wasm_decode.proofs.reader.one_module.Goals as goal

pub returns : goal.returns
returns c = at_most_one
