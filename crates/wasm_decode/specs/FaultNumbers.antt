-- The numbers of the faults, and what a fault in the bytes is here.
use Rattle.std.specs.Prelude.{ℕ}
use Rattle.wasm_bytes.specs.declared.fault.FaultKind.{FaultKind as ByteFaultKind}
use Rattle.wasm_bytes.specs.declared.fault.FaultKind.TheVariants as byte
use Rattle.wasm_decode.specs.declared.fault.FaultKind.{FaultKind}
use Rattle.wasm_decode.specs.declared.fault.FaultKind.TheVariants.{Magic, Version, EndedEarly, BadNumber, SectionOrder, Length, Opcode, TypeByte, NotUtf8}
use Rattle.wasm_decode.specs.declared.fault.FaultKind.TheVariants.{Float, Limit, CountsDiffer, StartSection}

abbrev pub number_of : FaultKind → ℕ
number_of Magic = 101
number_of Version = 102
number_of EndedEarly = 103
number_of BadNumber = 104
number_of SectionOrder = 105
number_of Length = 106
number_of Opcode = 107
number_of TypeByte = 108
number_of NotUtf8 = 109
number_of Float = 110
number_of Limit = 111
number_of CountsDiffer = 112
number_of StartSection = 113

abbrev pub kind_of : ByteFaultKind → FaultKind
kind_of byte.EndedEarly = EndedEarly
kind_of byte.BadNumber = BadNumber
kind_of byte.NotUtf8 = NotUtf8
