use Rattle.wasm_meaning.specs.Laws.Alike.{invocation_follows}
use Rattle.wasm_meaning.proofs.follows_host.Goals as goal

pub returns : goal.returns
returns g c = λ m h g'. invocation_follows m h g' g.F.Fact.holds
