use Rattle.wasm_meaning.specs.Laws.Unfold.{meaning-is}
use Rattle.wasm_meaning.proofs.one_level.Goals as goal

pub returns : goal.returns
returns g c = meaning-is
