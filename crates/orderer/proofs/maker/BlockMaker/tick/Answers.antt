use Rattle.std.proofs.Common.{[], ◌∷◌, ◌++◌, map, refl, sym, subst}
use Rattle.batch_cutter.specs.Division.{message, timeout, IsDivision}
use Rattle.batch_cutter.specs.Offers.{batch_of}
use Rattle.fab_types.specs.Data.{IsBlockData}
use Rattle.fab_types.specs.Editions.{last_block}
use Rattle.fab_types.specs.Size.{envelope_size}
use Rattle.orderer.specs.Blocks.{Adds}
use Rattle.orderer.specs.Ordering.{Ordering, AreLimits}
use Rattle.orderer.specs.Arranged.{arranges_by}
use Rattle.orderer.proofs.Cutting.{timed_fit}
use Rattle.orderer.proofs.Refusing.{mark_refused, first_refused}
use Rattle.orderer.proofs.maker.BlockMaker.tick.Goals as goal

pub add_batch-requires-clause-batch : goal.add_batch-requires-clause-batch
add_batch-requires-clause-batch c =
    let cutter = c.self.inside.cutter in
    let pending = c.timeout.new.self.pending in
    let cut = subst (λ r. IsDivision envelope_size cutter.limits (map message cutter.pending ++ timeout ∷ []) (batch_of r) pending) c.in-Some.is
    c.timeout.ensures.divides in
    subst IsBlockData (sym c.deref.ensures.value)
    (timed_fit cutter.limits cutter.pending (c.in-Some.batch.items ∷ []) pending c.self.invariant.0 c.timeout.ensures.waited cut).0

pub invariant_of-self-in-Ok : goal.invariant_of-self-in-Ok
invariant_of-self-in-Ok c = (
  subst AreLimits (sym c.timeout.ensures.limits) c.self.invariant.0,
  c.in-Ok.ensures.number,
  c.add_batch.ensures.hashes,
)

pub returns-in-Ok-clause-taken : goal.returns-in-Ok-clause-taken
returns-in-Ok-clause-taken c =
    let cutter = c.self.inside.cutter in
    let pending = c.timeout.new.self.pending in
    let old = c.self.inside.chain.blocks in
    let new = c.add_batch.new.chain.blocks in
    let arranges = arranges_by c.self.inside.reorder in
    let cut = subst (λ r. IsDivision envelope_size cutter.limits (map message cutter.pending ++ timeout ∷ []) (batch_of r) pending) c.in-Some.is
    c.timeout.ensures.divides in
    let adds = subst (λ es. Adds arranges old es c.in-Ok.made.report new) c.deref.ensures.value c.in-Ok.ensures.added in
    rw (← c.self.view_is) (record {
      batches = c.in-Some.batch.items ∷ [];
      cut = cut;
      added = (c.in-Ok.made.report, [], new, refl, adds, (refl, refl));
      limits = c.timeout.ensures.limits;
      reorder = refl;
      edition = refl;
    })

pub returns-in-Err-clause-refused : goal.returns-in-Err-clause-refused
returns-in-Err-clause-refused c =
    let inside = c.self.inside in
    let pending = c.timeout.new.self.pending in
    let old : Ordering = record {
      edition = inside.edition;
      reorder = inside.reorder;
      limits = inside.cutter.limits;
      pending = inside.cutter.pending;
      chain = inside.chain.blocks;
    } in
    let arranges = arranges_by inside.reorder in
    let cut = subst (λ r. IsDivision envelope_size old.limits (map message old.pending ++ timeout ∷ []) (batch_of r) pending) c.in-Some.is
    c.timeout.ensures.divides in
    let why = first_refused (last_block inside.edition) arranges c.in-Err.cause old.chain c.deref.result.now c.in-Some.batch.items [] c.deref.ensures.value c.in-Err.ensures.refused in
    rw (← c.self.view_is) (mark_refused c.in-Err.cause old timeout (c.in-Some.batch.items ∷ []) pending (λ none. none) cut why)
