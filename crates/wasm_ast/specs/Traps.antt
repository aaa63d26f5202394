-- The numbers of the traps.
use Rattle.std.specs.Prelude.{ℕ}
use Rattle.wasm_ast.specs.declared.trap.Trap.{Trap}
use Rattle.wasm_ast.specs.declared.trap.Trap.TheVariants.{Unreachable, DivideByZero, IntegerOverflow, OutOfBounds, UndefinedElement, UninitializedElement}
use Rattle.wasm_ast.specs.declared.trap.Trap.TheVariants.{IndirectCallType, CallDepth}

abbrev pub trap_number : Trap → ℕ
trap_number Unreachable = 1
trap_number DivideByZero = 2
trap_number IntegerOverflow = 3
trap_number OutOfBounds = 4
trap_number UndefinedElement = 5
trap_number UninitializedElement = 6
trap_number IndirectCallType = 7
trap_number CallDepth = 8
