use Rattle.std.proofs.Common.{◌≡◌, ℕ, ◌||◌, false, get_or, take, eqb}
use Rattle.std.specs.List.{list_any}
use Rattle.reorder.proofs.writes.set_writers.Given as goal

abbrev pub invariant-loop-written : goal.invariant-loop-written
invariant-loop-written l =
    (j : ℕ) → get_or l.row j false ≡ (get_or l.fn.row j false || list_any (λ w. eqb w.writer j) (take l.written-index l.stretch))
