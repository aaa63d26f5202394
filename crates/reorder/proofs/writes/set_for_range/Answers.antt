use Rattle.std.proofs.Common.{ℕ, ◌≤◌, false, List, length, get_or, sym, ◌∙◌, subst, arith, rules}
use Rattle.fab_types.specs.Order.{IsFirstShown, is_within}
use Rattle.reorder.proofs.Tables.{IsEnd, range_stretch, end_bounded, end_unbounded}
use Rattle.reorder.proofs.Hits.{set_stretch, set_nothing}
use Rattle.reorder.proofs.writes.set_for_range.Goals as goal
use Rattle.reorder.proofs.writes.set_for_range.Goals.{then-is_empty, else-is_empty}

pub returns-then-first-end : goal.returns-then-first-end
returns-then-first-end c =
    let index = c.args.index.now in
    let range = c.args.range.now in
    let lo = c.first_from-first.result in
    let hi = c.if-is_empty.end in
    let first = c.first_shown.result.now in
    let shown : IsFirstShown range.start first = subst (λ (s : List ℕ). IsFirstShown s first) c.start.ensures c.first_shown.ensures.later in
    let end_is = c.as_slice-bound.ensures.value ∙ c.end.ensures in
    let end : IsEnd c.as_slice-bound.result.now index hi =
    elim c.if-is_empty.branch [
      | then-is_empty w ↦ end_unbounded c.as_slice-bound.result.now index hi (search rules) w.end-is
      | else-is_empty w ↦ subst (λ (x : ℕ). IsEnd c.as_slice-bound.result.now index x) (sym w.end-is)
          (end_bounded c.as_slice-bound.result.now index w.first_from-end.result (search rules) w.first_from-end.ensures.point)
    ] in
    let within : hi ≤ length index = elim c.if-is_empty.branch [ then-is_empty w ↦ omega arith | else-is_empty w ↦ omega arith ] in
    let end2 = subst (λ (k : List ℕ). IsEnd k index hi) end_is end in
    set_stretch (λ k. is_within range.start range.end k) index lo hi (λ j. get_or c.args.row.now j false) (λ j. get_or c.set_writers.new.row j false)
    c.if-first-end.true within (range_stretch index range.start first range.end lo hi shown c.first_from-first.ensures.point end2) c.set_writers.ensures

pub returns-else-first-end : goal.returns-else-first-end
returns-else-first-end c =
    let index = c.args.index.now in
    let range = c.args.range.now in
    let lo = c.first_from-first.result in
    let hi = c.if-is_empty.end in
    let first = c.first_shown.result.now in
    let shown : IsFirstShown range.start first = subst (λ (s : List ℕ). IsFirstShown s first) c.start.ensures c.first_shown.ensures.later in
    let end_is = c.as_slice-bound.ensures.value ∙ c.end.ensures in
    let end : IsEnd c.as_slice-bound.result.now index hi =
    elim c.if-is_empty.branch [
      | then-is_empty w ↦ end_unbounded c.as_slice-bound.result.now index hi (search rules) w.end-is
      | else-is_empty w ↦ subst (λ (x : ℕ). IsEnd c.as_slice-bound.result.now index x) (sym w.end-is)
          (end_bounded c.as_slice-bound.result.now index w.first_from-end.result (search rules) w.first_from-end.ensures.point)
    ] in
    let end2 = subst (λ (k : List ℕ). IsEnd k index hi) end_is end in
    set_nothing (λ k. is_within range.start range.end k) index lo hi (λ j. get_or c.args.row.now j false) c.if-first-end.false
    (range_stretch index range.start first range.end lo hi shown c.first_from-first.ensures.point end2)
