use Rattle.std.proofs.Common.{refl, sym, subst, arith}
use Rattle.batch_cutter.specs.Division.{message}
use Rattle.batch_cutter.specs.Offers.{batches}
use Rattle.orderer.specs.Ordering.{Ordering, AreLimits}
use Rattle.orderer.proofs.Cutting.{offered_fit}
use Rattle.orderer.proofs.Refusing.{mark_refused}
use Rattle.orderer.proofs.maker.BlockMaker.accept.Goals as goal

pub add_cut-requires-clause-batches : goal.add_cut-requires-clause-batches
add_cut-requires-clause-batches c =
    let offers = c.in-Ok.ensures.cut in
    let cutter = c.self.inside.cutter in
    offered_fit cutter.limits cutter.pending c.args.given (batches c.in-Ok.cut) c.offer.new.self.pending c.self.invariant.0 offers.waited c.in-Ok.ensures.size
    offers.divides

pub invariant_of-self-in-Ok-add_cut : goal.invariant_of-self-in-Ok-add_cut
invariant_of-self-in-Ok-add_cut c = (
  subst AreLimits (sym c.in-Ok.ensures.cut.limits) c.self.invariant.0,
  c.in-Ok-add_cut.ensures.number,
  c.add_cut.ensures.hashes,
)

pub returns-in-Ok-add_cut-clause-taken : goal.returns-in-Ok-add_cut-clause-taken
returns-in-Ok-add_cut-clause-taken c =
    let offers = c.in-Ok.ensures.cut in
    rw (← c.self.view_is) (record {
      batches = batches c.in-Ok.cut;
      cut = offers.divides;
      added = c.in-Ok-add_cut.ensures.added;
      limits = offers.limits;
      reorder = refl;
      edition = refl;
    })

pub returns-in-Err-add_cut-clause-refused : goal.returns-in-Err-add_cut-clause-refused
returns-in-Err-add_cut-clause-refused c =
    let inside = c.self.inside in
    let old : Ordering = record {
      edition = inside.edition;
      reorder = inside.reorder;
      limits = inside.cutter.limits;
      pending = inside.cutter.pending;
      chain = inside.chain.blocks;
    } in
    rw (← c.self.view_is)
    (mark_refused c.in-Err-add_cut.cause old (message c.args.given) (batches c.in-Ok.cut) c.offer.new.self.pending
    (λ large. omega (arith, large, c.in-Ok.ensures.size)) c.in-Ok.ensures.cut.divides c.in-Err-add_cut.ensures.refused)
