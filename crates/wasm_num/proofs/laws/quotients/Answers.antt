use Rattle.wasm_num.proofs.Dividing.{divides_unsigned, divides_signed}
use Rattle.wasm_num.proofs.laws.quotients.Goals as goal

pub returns : goal.returns
returns c = record { unsigned = divides_unsigned; signed = divides_signed }
