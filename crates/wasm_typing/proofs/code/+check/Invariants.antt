use Rattle.std.proofs.Common.{◌≡◌, ◌+◌, ◌*◌, drop}
use Rattle.wasm_ast.specs.Code.{code_size}
use Rattle.wasm_ast.specs.View.{code_of}
use Rattle.wasm_typing.specs.Operands.{no_operands}
use Rattle.wasm_typing.specs.Algorithm.{check}
use Rattle.wasm_typing.specs.Inside.{context_of}
use Rattle.wasm_typing.specs.Mistyped.{Mistyped}
use Rattle.wasm_typing.proofs.Instructions.{instr_size}
use Rattle.wasm_typing.proofs.code.+check.Given as goal

abbrev pub decreases-check_body : goal.decreases-check_body
decreases-check_body l = 3 * code_size l.body.now + 1

abbrev pub decreases-check_if : goal.decreases-check_if
decreases-check_if l = 3 * (code_size l.choice.now.yes + code_size l.choice.now.no) + 2

abbrev pub decreases-check_instr : goal.decreases-check_instr
decreases-check_instr l = 3 * instr_size l.instr.now

abbrev pub invariant-check_body-loop-instr : goal.invariant-check_body-loop-instr
invariant-check_body-loop-instr l =
    record {
      labels : l.labels ≡ l.initial.labels;
      lower : l.stack.lower ≡ l.initial.stack.lower;
      checked : check (context_of l.scope l.initial.labels) (code_of (drop l.instr-index l.instr-items)) l.stack.here ≡
          check (context_of l.scope l.initial.labels) l.body no_operands;
      mistyped : Mistyped (context_of l.scope l.initial.labels) l.left (code_of (drop l.instr-index l.instr-items)) l.stack.here →
          Mistyped (context_of l.scope l.initial.labels) l.left l.body no_operands;
    }

abbrev pub decreases-check_block : goal.decreases-check_block
decreases-check_block l = 3 * code_size l.block.now.body + 2
