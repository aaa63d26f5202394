use Rattle.std.proofs.Common.{◌≡◌, List, ◌++◌, ◌∷◌, []}
use Rattle.std.specs.Prelude.{drop}
use Rattle.snapshot_cell.specs.declared.kept.Next.{Next}
use Rattle.snapshot_cell.proofs.writer.turn.Given as goal

abbrev pub invariant-tries : goal.invariant-tries
invariant-tries g l =
    ((xs : List Next) × (op : Next) × (drop l.inner.behind l.inner.log.items ≡ xs ++ op ∷ []) × (op.parent.seen.book ≡ l.inner.desk.shown.value.front.seen.book))
    × (drop l.inner.behind l.inner.log.items ≡ drop l.fn.inner.behind l.fn.inner.log.items) × (l.inner.desk.shown.value ≡ l.fn.inner.desk.shown.value)
