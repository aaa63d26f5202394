use Rattle.wasm_num.proofs.Trapping.{zero_traps, overflow_traps, no_other_traps}
use Rattle.wasm_num.proofs.laws.traps.Goals as goal

pub returns : goal.returns
returns c = record { zero = zero_traps; overflow = overflow_traps; no_other = no_other_traps }
