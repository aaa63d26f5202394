use Rattle.wasm_meaning.specs.Laws.NeverStuck.{invocation_moves, invocation_ends}
use Rattle.wasm_meaning.proofs.never_stuck.Goals as goal

pub returns : goal.returns
returns g c = record { moves = invocation_moves; ends = invocation_ends }
