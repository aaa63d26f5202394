use Rattle.std.proofs.Common.{◌≡◌, ℕ, ◌||◌, false, get_or, take}
use Rattle.std.specs.List.{list_any}
use Rattle.fab_types.specs.Touched.{same_key}
use Rattle.reorder.specs.KeyWrites.{hits}
use Rattle.reorder.proofs.writes.set_for_reads.Given as goal

abbrev pub invariant-loop-read : goal.invariant-loop-read
invariant-loop-read l =
    (j : ℕ) → get_or l.row j false ≡ (get_or l.fn.row j false || hits (λ k. list_any (λ r. same_key r.key k) (take l.read-index l.reads)) l.index j)
