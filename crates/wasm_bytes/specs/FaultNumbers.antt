-- The numbers of the faults that bytes can have.
use Rattle.std.specs.Prelude.{ℕ}
use Rattle.wasm_bytes.specs.declared.fault.FaultKind.{FaultKind}
use Rattle.wasm_bytes.specs.declared.fault.FaultKind.TheVariants.{EndedEarly, BadNumber, NotUtf8}

abbrev pub number_of : FaultKind → ℕ
number_of EndedEarly = 103
number_of BadNumber = 104
number_of NotUtf8 = 109
