-- Instructions with none inside.
use Rattle.std.specs.Prelude.{Bool, true, false}
use Rattle.wasm_ast.specs.declared.body.Instr.{Instr}
use Rattle.wasm_ast.specs.declared.body.Instr.TheVariants.{Block, Loop, If}

abbrev pub is_plain : Instr → Bool
is_plain (Block b) = false
is_plain (Loop b) = false
is_plain (If b) = false
is_plain _ = true
