use Rattle.std.proofs.Common.{length, arith}
use Rattle.orderer.specs.declared.arrangement.AbortCause.TheVariants.{Outdated}
use Rattle.log_orderer.proofs.Telling.{at_more, place_below}
use Rattle.log_orderer.proofs.batch.ids_at.Goals as goal

pub loop-place-preserved : goal.loop-place-preserved
loop-place-preserved c =
    let members = c.args.members.now in
    let aborted = c.args.aborted.now in
    let i = c.loop-place.place-index in
    let more = at_more members aborted i (0, Outdated) c.loop-place.ids.items c.loop-place-test.true
    (place_below (length members) aborted i (0, Outdated) c.requires.places c.loop-place-test.true) c.loop-place.invariant.0 in
    let pushed = rw c.unwrap.ensures at c.push.ensures.items in
    let counted = rw c.unwrap.ensures at c.push.ensures.len in
    (rw pushed more, omega (arith, counted, c.loop-place.invariant.1), omega (arith, c.push.ensures.capacity, c.loop-place.invariant.2))
