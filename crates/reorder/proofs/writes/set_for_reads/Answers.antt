use Rattle.std.proofs.Common.{false, get_or, arith}
use Rattle.fab_types.specs.Touched.{same_key}
use Rattle.reorder.proofs.Hits.{set_none, set_item, set_items}
use Rattle.reorder.proofs.writes.set_for_reads.Goals as goal

pub loop-read-init : goal.loop-read-init
loop-read-init c = λ j. set_none (get_or c.args.row.now j false) c.args.index.now j

pub loop-read-preserved : goal.loop-read-preserved
loop-read-preserved c = λ j.
    set_item (λ r k. same_key r.key k) c.args.reads.now c.loop-read.read-index c.read-item.result (get_or c.args.row.now j false)
    (get_or c.loop-read.row j false) (get_or c.set_for_key.new.row j false) c.args.index.now j (omega arith) c.read-item.is (c.loop-read.invariant j)
    (c.set_for_key.ensures j)

pub returns : goal.returns
returns c = λ j.
    set_items (λ r k. same_key r.key k) c.args.reads.now c.loop-read.read-index (get_or c.args.row.now j false) (get_or c.loop-read.row j false)
    c.args.index.now j (omega arith) (c.loop-read.invariant j)
