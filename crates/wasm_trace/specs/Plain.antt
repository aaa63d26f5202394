-- Instructions by what they read and change.
use Rattle.std.specs.Prelude.{◌≡◌, ℕ, List}
use Rattle.wasm_ast.specs.declared.body.Instr.{Instr}
use Rattle.wasm_ast.specs.declared.body.Instr.TheVariants as instr
use Rattle.wasm_ast.specs.Code.{Code}
use Rattle.wasm_ast.specs.View.{then_code}
use Rattle.wasm_meaning.specs.Values.{Val, World, Program}
use Rattle.wasm_trace.specs.declared.parts.Value.{Value}
use Rattle.wasm_trace.specs.declared.parts.Turn.{Turn}
use Rattle.wasm_trace.specs.Reduction.{Nil, plain}
use Rattle.wasm_trace.specs.View.{stack_of, step_of, paid_step}

-- an instruction that becomes another within its label: no block, branch or return
abbrev pub Becomes : Instr → Type 0
Becomes (instr.Block b) = ⊥
Becomes (instr.Loop b) = ⊥
Becomes (instr.If b) = ⊥
Becomes (instr.Br k) = ⊥
Becomes instr.Return = ⊥
Becomes _ = Unit {0}

-- one that reads and changes nothing but the values
abbrev pub IsOnValues : Instr → Type 0
IsOnValues (instr.Block b) = ⊥
IsOnValues (instr.Loop b) = ⊥
IsOnValues (instr.If b) = ⊥
IsOnValues (instr.Br k) = ⊥
IsOnValues instr.Return = ⊥
IsOnValues (instr.Call k) = ⊥
IsOnValues (instr.CallIndirect k) = ⊥
IsOnValues (instr.LocalGet k) = ⊥
IsOnValues (instr.LocalSet k) = ⊥
IsOnValues (instr.GlobalGet k) = ⊥
IsOnValues (instr.GlobalSet k) = ⊥
IsOnValues (instr.Load o a) = ⊥
IsOnValues (instr.Store o a) = ⊥
IsOnValues instr.MemorySize = ⊥
IsOnValues instr.MemoryGrow = ⊥
IsOnValues _ = Unit {0}

-- it becomes this, its cost of 1 taken
abbrev pub OnValues : (R : Type 0) → Instr → (stack after : List Value) → Turn → Type 0
OnValues R x vs vs' t =
    (p : Program R) (f : ℕ) (l : List Val) (w : World R) (c : Code) →
    paid_step p f l w (stack_of vs) (plain (then_code x c) Nil) ≡ step_of t f l w (stack_of vs') (plain c Nil)
