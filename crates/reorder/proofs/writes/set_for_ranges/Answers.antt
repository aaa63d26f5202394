use Rattle.std.proofs.Common.{false, get_or, arith}
use Rattle.fab_types.specs.Order.{is_within}
use Rattle.reorder.proofs.Hits.{set_none, set_item, set_items}
use Rattle.reorder.proofs.writes.set_for_ranges.Goals as goal

pub loop-range-init : goal.loop-range-init
loop-range-init c = λ j. set_none (get_or c.args.row.now j false) c.args.index.now j

pub loop-range-preserved : goal.loop-range-preserved
loop-range-preserved c = λ j.
    set_item (λ r k. is_within r.start r.end k) c.args.ranges.now c.loop-range.range-index c.range-item.result (get_or c.args.row.now j false)
    (get_or c.loop-range.row j false) (get_or c.set_for_range.new.row j false) c.args.index.now j (omega arith) c.range-item.is (c.loop-range.invariant j)
    (c.set_for_range.ensures j)

pub returns : goal.returns
returns c = λ j.
    set_items (λ r k. is_within r.start r.end k) c.args.ranges.now c.loop-range.range-index (get_or c.args.row.now j false) (get_or c.loop-range.row j false)
    c.args.index.now j (omega arith) (c.loop-range.invariant j)
