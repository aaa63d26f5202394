use Rattle.wasm_meaning.specs.Laws.Unfold.{meaning-left, invocation-left}
use Rattle.wasm_meaning.proofs.within_fuel.Goals as goal

pub returns : goal.returns
returns g c = record { code = meaning-left; invocation = invocation-left }
