use Rattle.std.proofs.Common.{◌≡◌, reverse, ◌≤◌, length, take}
use Rattle.wasm_typing.specs.Operands.{pop_all}
use Rattle.wasm_typing.proofs.operands.OperandStack.pop_arguments.Given as goal

abbrev pub invariant-loop-left : goal.invariant-loop-left
invariant-loop-left l =
    record {
      bound : l.left ≤ length l.params;
      lower : l.self.lower ≡ l.initial.self.lower;
      popped : pop_all (reverse (take l.left l.params)) l.self.here ≡ pop_all (reverse l.params) l.initial.self.here;
    }

abbrev pub decreases-loop-left : goal.decreases-loop-left
decreases-loop-left l = l.left
