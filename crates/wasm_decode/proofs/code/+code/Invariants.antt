use Rattle.std.proofs.Common.{◌≡◌, ℕ, ◌+◌, ◌*◌, ◌≤◌, ◌<◌}
use Rattle.wasm_ast.specs.View.{code_of}
use Rattle.wasm_decode.specs.CodeReading.{step_at, before, code_at, body_at, below}
use Rattle.wasm_decode.specs.Faults.{Kept}
use Rattle.wasm_bytes.specs.Place.{Place}
use Rattle.wasm_decode.proofs.code.+code.Given as goal

abbrev pub decreases-closed : goal.decreases-closed
decreases-closed l = 4 * l.level.nesting + 3

abbrev pub decreases-instructions : goal.decreases-instructions
decreases-instructions l = 4 * l.level.nesting + 2

abbrev pub decreases-instruction : goal.decreases-instruction
decreases-instruction l = 4 * l.level.nesting + 1

abbrev pub decreases-block : goal.decreases-block
decreases-block l = 4 * l.level.nesting

abbrev pub decreases-conditional : goal.decreases-conditional
decreases-conditional l = 4 * l.level.nesting

-- how many turns there may still be, and what was read so far
pub record SoFar (P : ℕ → Type 0) (left start : ℕ) (old new : Place) : Type 0 where
  pub turns : ℕ
  pub enough : left < turns
  pub fewer : left ≤ start
  pub read : P turns
  pub kept : Kept old new

abbrev pub invariant-instructions-items : goal.invariant-instructions-items
invariant-instructions-items l =
    SoFar (λ turns. before (code_of l.items.items) (code_at (step_at l.level.profile (below l.level.profile l.level.nesting)) turns l.left l.cursor.rest) ≡
    body_at l.level.profile l.level.nesting l.fn.left l.fn.cursor.rest) l.left l.fn.left l.fn.cursor l.cursor

abbrev pub decreases-instructions-items : goal.decreases-instructions-items
decreases-instructions-items l = l.left
