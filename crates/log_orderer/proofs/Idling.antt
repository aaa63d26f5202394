-- A tick where nothing waits.
use Rattle.std.proofs.Common.{inl, inr, ◌≡◌, ◌≤◌, ◌⊎◌, ◌++◌, List, [], ◌∷◌, length, map, codes, Option, Some, None, refl, sym, ap, subst, ◌∙◌, arith}
use Rattle.fab_types.specs.Editions.{last_block}
use Rattle.fab_types.specs.Size.{envelope_size}
use Rattle.fab_types.specs.declared.block.Block.{Block}
use Rattle.fab_types.specs.declared.envelope.Envelope.{Envelope}
use Rattle.batch_cutter.specs.Division.{IsBatch, IsDivision, Limits, Mark, message, timeout}
use Rattle.orderer.specs.Arranged.{arranges_by}
use Rattle.orderer.specs.Blocks.{AddsEach}
use Rattle.orderer.specs.Ordering.{Ordering, Takes, RunsOut, IsTooLarge}
use Rattle.orderer.specs.declared.report.BatchReport.{BatchReport}
use Rattle.orderer.proofs.Joining.{same_ordering}
use Rattle.log_orderer.specs.Log.{Reads}
use Rattle.log_orderer.proofs.Logging.{OneMark}

no_messages : (pending : List Envelope) → [] ≡ map message pending → pending ≡ []
no_messages [] h = refl
no_messages (e ∷ es) h = cc

no_batch : (limits : Limits) (batch : List Envelope) (after : List (Mark Envelope)) → [] ≡ map message batch ++ after →
    IsBatch envelope_size limits batch after → ⊥
no_batch limits [] after none (inl alone) = let h = alone.1 in cc
no_batch limits [] after none (inr ordinary) = omega (arith, ordinary.filled)
no_batch limits (e ∷ es) after none batch = cc

-- a timeout alone cuts nothing
nothing_cut : (limits : Limits) (batches : List (List Envelope)) (pending : List Envelope) →
    IsDivision envelope_size limits (timeout ∷ []) batches pending → (batches ≡ []) × (pending ≡ [])
nothing_cut limits [] pending cut = (refl, no_messages pending cut.0)
nothing_cut limits (batch ∷ batches) pending cut = absurd (no_batch limits batch cut.0 cut.1 cut.2)

alone : (old : Ordering) (batches : List (List Envelope)) (pending : List Envelope) → old.pending ≡ [] →
    IsDivision envelope_size old.limits (map message old.pending ++ timeout ∷ []) batches pending → (batches ≡ []) × (pending ≡ [])
alone old batches pending none cut =
    nothing_cut old.limits batches pending
    (subst (λ (es : List Envelope). IsDivision envelope_size old.limits (map message es ++ timeout ∷ []) batches pending) none cut)

idle_taken : (old new : Ordering) (reports : List BatchReport) → old.pending ≡ [] → Takes old timeout reports new → (reports ≡ []) × (new ≡ old)
idle_taken old new reports none takes =
    let cut = alone old takes.batches new.pending none takes.cut in
    let added = subst (λ (bs : List (List Envelope)). AddsEach (arranges_by old.reorder) old.chain bs reports new.chain) cut.0 takes.added in
    (added.0, same_ordering new old takes.edition takes.reorder takes.limits (cut.1 ∙ sym none) added.1)

no_first : (first others : List (List Envelope)) → first ++ others ≡ [] → first ≡ []
no_first [] others h = refl
no_first (batch ∷ first) others h = cc

idle_room : (old : Ordering) → old.pending ≡ [] → length old.chain ≤ last_block old.edition → RunsOut old timeout → ⊥
idle_room old none room out =
    let cut = alone old (out.first ++ out.others) out.pending none out.cut in
    let first = no_first out.first out.others cut.0 in
    let added = subst (λ (bs : List (List Envelope)). AddsEach (arranges_by old.reorder) old.chain bs out.reports out.chain) first out.added in
    omega (arith, room, out.past, ap (λ (blocks : List Block). length blocks) added.1)

idle_refused : (old : Ordering) → old.pending ≡ [] → length old.chain ≤ last_block old.edition → (IsTooLarge old.limits timeout ⊎ RunsOut old timeout) → ⊥
idle_refused old none room (inl large) = large
idle_refused old none room (inr out) = idle_room old none room out

-- a tick where nothing waits is taken, and changes nothing
pub idle : OneMark → (old new : Ordering) (answer : Option (List BatchReport)) → old.pending ≡ [] → length old.chain ≤ last_block old.edition →
    Reads old (codes "tick") answer new → (answer ≡ Some []) × (new ≡ old)
idle one old new (Some reports) none room reads =
    let takes = subst (λ (m : Mark Envelope). Takes old m reports new) (one (codes "tick") reads.0 timeout reads.1 refl) reads.2.0 in
    let same = idle_taken old new reports none takes in
    (ap (λ (l : List BatchReport). let o : Option (List BatchReport) = Some l in o) same.0, same.1)
idle one old new None none room ((inl unmarked), same) = absurd (unmarked timeout refl)
idle one old new None none room ((inr refused), same) =
    let tick = one (codes "tick") refused.0 timeout refused.1 refl in
    absurd (idle_refused old none room (subst (λ (m : Mark Envelope). IsTooLarge old.limits m ⊎ RunsOut old m) tick refused.2))
