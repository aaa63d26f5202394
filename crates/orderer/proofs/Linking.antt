-- Blocks that are linked stay so as batches are added.
use Rattle.std.proofs.Common.{◌≡◌, ℕ, zero, suc, ◌++◌, List, [], ◌∷◌, length, take, sym, ap, subst, ◌∙◌, append_assoc, arith, Some, slice_get}
use Rattle.std.proofs.lemmas.List.{append-nil, length-append}
use Rattle.fab_types.specs.declared.envelope.Envelope.{Envelope}
use Rattle.fab_types.specs.declared.block.Block.{Block}
use Rattle.batch_cutter.specs.Division.{Mark}
use Rattle.orderer.specs.Arranged.{arranges_by}
use Rattle.orderer.specs.Ordering.{Ordering, Takes}
use Rattle.orderer.specs.Places.{envelopes_at}
use Rattle.orderer.specs.Blocks.{Adds, AddsEach, AreNumbered, AreLinked, next_block, next_header, with_batch}
use Rattle.orderer.specs.declared.arrangement.AbortCause.{AbortCause}
use Rattle.orderer.specs.declared.report.BatchReport.{BatchReport}

linked_more : (before blocks : List Block) (es : List Envelope) → AreLinked before blocks → AreLinked before (blocks ++ next_block (before ++ blocks) es ∷ [])
linked_more before [] es are = (ap (λ (bs : List Block). next_header bs es) (append-nil before), tt)
linked_more before (b ∷ blocks) es are = (
  are.0,
  subst (λ (bs : List Block). AreLinked (before ++ b ∷ []) (blocks ++ next_block bs es ∷ [])) (append_assoc before (b ∷ []) blocks)
      (linked_more (before ++ b ∷ []) blocks es are.1),
)

with_batch_linked : (old : List Block) (es : List Envelope) → AreLinked [] old → AreLinked [] (with_batch old es)
with_batch_linked old [] are = are
with_batch_linked old (e ∷ es) are = linked_more [] old (e ∷ es) are

pub adds_linked : (arranges : List Envelope → List ℕ → List (ℕ × AbortCause) → Type 0) (old : List Block) (batch : List Envelope) (report : BatchReport)
    (new : List Block) → Adds arranges old batch report new → AreLinked [] old → AreLinked [] new
adds_linked arranges old batch report new adds are = subst (AreLinked []) (sym adds.chain) (with_batch_linked old (envelopes_at batch adds.order) are)

pub each_linked : (arranges : List Envelope → List ℕ → List (ℕ × AbortCause) → Type 0) (old : List Block) (batches : List (List Envelope))
    (reports : List BatchReport) (new : List Block) → AddsEach arranges old batches reports new → AreLinked [] old → AreLinked [] new
each_linked arranges old [] reports new adds are = subst (AreLinked []) (sym adds.1) are
each_linked arranges old (batch ∷ batches) reports new adds are =
    each_linked arranges adds.2 batches adds.1 new adds.5 (adds_linked arranges old batch adds.0 adds.2 adds.4 are)

pub takes_linked : (old new : Ordering) (mark : Mark Envelope) (reports : List BatchReport) → Takes old mark reports new → AreLinked [] old.chain →
    AreLinked [] new.chain
takes_linked old new mark reports takes are = each_linked (arranges_by old.reorder) old.chain takes.batches reports new.chain takes.added are

-- linked blocks are numbered
pub linked_numbered : (before blocks : List Block) → AreLinked before blocks → AreNumbered (suc (length before)) blocks
linked_numbered before [] are = tt
linked_numbered before (b ∷ blocks) are =
    let more : suc (length (before ++ b ∷ [])) ≡ suc (suc (length before)) = omega (arith, length-append before (b ∷ [])) in
    (ap (λ h. h.number) are.0, subst (λ (n : ℕ). AreNumbered n blocks) more (linked_numbered (before ++ b ∷ []) blocks are.1))

-- the header of the block at a place
pub linked_at : (before blocks : List Block) (i : ℕ) (b : Block) → AreLinked before blocks → slice_get blocks i ≡ Some b →
    b.header ≡ next_header (before ++ take i blocks) b.envelopes
linked_at before [] i b are at = absurd (cc)
linked_at before (x ∷ blocks) zero b are at =
    let same : x ≡ b = cc in
    subst (λ (y : Block). y.header ≡ next_header (before ++ []) y.envelopes) same
    (are.0 ∙ ap (λ (bs : List Block). next_header bs x.envelopes) (sym (append-nil before)))
linked_at before (x ∷ blocks) (suc i) b are at =
    linked_at (before ++ x ∷ []) blocks i b are.1 at ∙ ap (λ (bs : List Block). next_header bs b.envelopes) (append_assoc before (x ∷ []) (take i blocks))
