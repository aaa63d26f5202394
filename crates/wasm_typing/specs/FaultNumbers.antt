-- The numbers of the faults of validation.
use Rattle.std.specs.Prelude.{ℕ}
use Rattle.wasm_typing.specs.declared.fault.ValidateFault.{ValidateFault}
use Rattle.wasm_typing.specs.declared.fault.ValidateFault.TheVariants.{Memory, TypeMismatch, Index, ImmutableGlobal, Alignment, DuplicateExport, Import}
use Rattle.wasm_typing.specs.declared.fault.ValidateFault.TheVariants.{NoInvoke, Segment, Initializer, Limits}

abbrev pub number_of : ValidateFault → ℕ
number_of Memory = 9
number_of TypeMismatch = 201
number_of Index = 202
number_of ImmutableGlobal = 203
number_of Alignment = 204
number_of DuplicateExport = 205
number_of Import = 206
number_of NoInvoke = 207
number_of Segment = 208
number_of Initializer = 209
number_of Limits = 210
