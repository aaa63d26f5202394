use Rattle.wasm_trace.proofs.Whole.{goes_on}
use Rattle.wasm_trace.proofs.laws.never_stuck.Goals as goal

pub returns : goal.returns
returns g c = λ m host records fuel x y v s r h. goes_on m host records fuel x y v s r h
