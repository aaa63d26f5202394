use Rattle.wasm_trace.proofs.Whole.{reduction_ends}
use Rattle.wasm_trace.proofs.laws.ends_as_run.Goals as goal

pub returns : goal.returns
returns g c = λ m host records fuel o after v e. reduction_ends m host records fuel v o after e
