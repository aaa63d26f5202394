use Rattle.wasm_meaning.specs.Laws.ExecutedFits.{executed_fits, executed_by_fits}
use Rattle.wasm_meaning.proofs.instructions_within_fuel.Goals as goal

pub returns : goal.returns
returns g c = record {
  code = λ p d c f s l w. (executed_fits p d c f s l w).fits;
  invocation = λ m host records fuel. (executed_by_fits m host records fuel).fits;
}
