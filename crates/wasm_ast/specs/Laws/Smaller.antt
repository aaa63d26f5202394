-- A body is larger than each body inside it.
use Rattle.std.specs.Prelude.{◌≤◌, List, [], ◌∷◌}
use Rattle.std.proofs.Common.{arith}
use denote.Param.Weighed.{most}
use Rattle.wasm_ast.specs.Code.{code_size}
use Rattle.wasm_ast.specs.View.{code_of}
use Rattle.wasm_ast.specs.declared.body.Instr.{Instr}
use Rattle.wasm_ast.specs.declared.body.Instr.TheVariants.{Unreachable, Nop, Block, Loop, If, Br, BrIf, BrTable, Return, Call, CallIndirect, Drop, Select}
use Rattle.wasm_ast.specs.declared.body.Instr.TheVariants.{LocalGet, LocalSet, LocalTee, GlobalGet, GlobalSet, Load, Store, MemorySize, MemoryGrow, I32Const}
use Rattle.wasm_ast.specs.declared.body.Instr.TheVariants.{I64Const, I32Eqz, I64Eqz, I32Compare, I64Compare, I32Unary, I64Unary, I32Binary, I64Binary, Convert}
use Rattle.wasm_ast.specs.declared.body.Body.TheDeep.{deep-Instr}

pub most_le-code_size : (is : List Instr) → most deep-Instr is ≤ code_size (code_of is)
most_le-code_size [] = omega arith
most_le-code_size (Unreachable ∷ is) = omega (arith, most_le-code_size is)
most_le-code_size (Nop ∷ is) = omega (arith, most_le-code_size is)
most_le-code_size (Block b ∷ is) = omega (arith, most_le-code_size is)
most_le-code_size (Loop b ∷ is) = omega (arith, most_le-code_size is)
most_le-code_size (If b ∷ is) = omega (arith, most_le-code_size is)
most_le-code_size (Br n ∷ is) = omega (arith, most_le-code_size is)
most_le-code_size (BrIf n ∷ is) = omega (arith, most_le-code_size is)
most_le-code_size (BrTable t ∷ is) = omega (arith, most_le-code_size is)
most_le-code_size (Return ∷ is) = omega (arith, most_le-code_size is)
most_le-code_size (Call n ∷ is) = omega (arith, most_le-code_size is)
most_le-code_size (CallIndirect n ∷ is) = omega (arith, most_le-code_size is)
most_le-code_size (Drop ∷ is) = omega (arith, most_le-code_size is)
most_le-code_size (Select ∷ is) = omega (arith, most_le-code_size is)
most_le-code_size (LocalGet n ∷ is) = omega (arith, most_le-code_size is)
most_le-code_size (LocalSet n ∷ is) = omega (arith, most_le-code_size is)
most_le-code_size (LocalTee n ∷ is) = omega (arith, most_le-code_size is)
most_le-code_size (GlobalGet n ∷ is) = omega (arith, most_le-code_size is)
most_le-code_size (GlobalSet n ∷ is) = omega (arith, most_le-code_size is)
most_le-code_size (Load o a ∷ is) = omega (arith, most_le-code_size is)
most_le-code_size (Store o a ∷ is) = omega (arith, most_le-code_size is)
most_le-code_size (MemorySize ∷ is) = omega (arith, most_le-code_size is)
most_le-code_size (MemoryGrow ∷ is) = omega (arith, most_le-code_size is)
most_le-code_size (I32Const n ∷ is) = omega (arith, most_le-code_size is)
most_le-code_size (I64Const n ∷ is) = omega (arith, most_le-code_size is)
most_le-code_size (I32Eqz ∷ is) = omega (arith, most_le-code_size is)
most_le-code_size (I64Eqz ∷ is) = omega (arith, most_le-code_size is)
most_le-code_size (I32Compare o ∷ is) = omega (arith, most_le-code_size is)
most_le-code_size (I64Compare o ∷ is) = omega (arith, most_le-code_size is)
most_le-code_size (I32Unary o ∷ is) = omega (arith, most_le-code_size is)
most_le-code_size (I64Unary o ∷ is) = omega (arith, most_le-code_size is)
most_le-code_size (I32Binary o ∷ is) = omega (arith, most_le-code_size is)
most_le-code_size (I64Binary o ∷ is) = omega (arith, most_le-code_size is)
most_le-code_size (Convert o ∷ is) = omega (arith, most_le-code_size is)
