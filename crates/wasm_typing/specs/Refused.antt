-- What a fault says of code: that it breaks the rule of the fault, or that validation gives no operands for it.
use Rattle.std.specs.Prelude.{◌≡◌, Option, None}
use Rattle.wasm_typing.specs.declared.fault.ValidateFault.{ValidateFault}
use Rattle.wasm_typing.specs.declared.fault.ValidateFault.TheVariants.{Memory, TypeMismatch, Index, ImmutableGlobal, Alignment}

abbrev pub Refused : {A : Type 0} → ValidateFault → (broken : Type 0) → Option A → Type 0
Refused Memory broken o = Unit {0}
Refused TypeMismatch broken o = o ≡ None
Refused Index broken o = broken
Refused ImmutableGlobal broken o = broken
Refused Alignment broken o = broken
Refused _ broken o = ⊥
