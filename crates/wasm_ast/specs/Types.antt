-- Words of the two widths (Core 1.0, section 2.3.1).
use Rattle.std.specs.Prelude.{ℕ, ◌^◌, Bool, true, false}
use Rattle.wasm_ast.specs.declared.types.ValueType.{ValueType}
use Rattle.wasm_ast.specs.declared.types.ValueType.TheVariants.{I32, I64}

-- the width of a type in bits
abbrev pub bits : ValueType → ℕ
bits I32 = 32
bits I64 = 64

-- how many words of a type there are: each is a number below this
abbrev pub words : ValueType → ℕ
words I32 = 2 ^ 32
words I64 = 2 ^ 64

abbrev pub same_type : ValueType → ValueType → Bool
same_type I32 I32 = true
same_type I32 I64 = false
same_type I64 I32 = false
same_type I64 I64 = true
