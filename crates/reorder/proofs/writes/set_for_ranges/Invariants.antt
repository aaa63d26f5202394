use Rattle.std.proofs.Common.{◌≡◌, ℕ, ◌||◌, false, get_or, take}
use Rattle.std.specs.List.{list_any}
use Rattle.fab_types.specs.Order.{is_within}
use Rattle.reorder.specs.KeyWrites.{hits}
use Rattle.reorder.proofs.writes.set_for_ranges.Given as goal

abbrev pub invariant-loop-range : goal.invariant-loop-range
invariant-loop-range l =
    (j : ℕ) → get_or l.row j false ≡ (get_or l.fn.row j false || hits (λ k. list_any (λ r. is_within r.start r.end k) (take l.range-index l.ranges)) l.index j)
