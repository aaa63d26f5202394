use Rattle.std.proofs.Common.{◌≡◌, true, false, arith, rules}
use Rattle.reorder.specs.Plan.{waits}
use Rattle.reorder.proofs.Listing.{listed_none, listed_more, listed_skips, listed_all}
use Rattle.reorder.proofs.picking.indices_of.Goals as goal
use Rattle.reorder.proofs.picking.indices_of.Goals.{then-waits+in_ok-push, else-waits}

pub loop-i-init : goal.loop-i-init
loop-i-init c = rw c.in_ok-waiting.ensures.items (listed_none c.args.left.now)

pub loop-i-preserved : goal.loop-i-preserved
loop-i-preserved c =
    let left = c.args.left.now in
    let waiting = c.loop-i.waiting.items in
    elim c.if-waits.branch [
      | then-waits+in_ok-push w ↦
          let here : waits left c.loop-i.i ≡ true = search rules in
          rw (w.waiting-is, w.in_ok-push.ensures.items) (listed_more left waiting c.loop-i.i here c.loop-i.invariant)
      | else-waits w ↦
          let gone : waits left c.loop-i.i ≡ false = search rules in
          rw w.waiting-is (listed_skips left waiting c.loop-i.i gone c.loop-i.invariant)
    ]

pub returns : goal.returns
returns c = listed_all c.args.left.now c.loop-i.waiting.items c.loop-i.i (omega arith) c.loop-i.invariant
