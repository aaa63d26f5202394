-- One batch more.
use Rattle.std.proofs.Common.{◌≡◌, ℕ, suc, ◌≤◌, ◌++◌, List, [], ◌∷◌, length, Some, None, refl, sym, ap, ◌∙◌, arith}
use Rattle.std.proofs.lemmas.List.{append-nil, length-append}
use Rattle.fab_types.specs.declared.envelope.Envelope.{Envelope}
use Rattle.fab_types.specs.declared.block.Block.{Block}
use Rattle.orderer.specs.Places.{envelopes_at}
use Rattle.orderer.specs.Adding.{IsBatchRefused}
use Rattle.orderer.specs.Making.{tip_of}
use Rattle.orderer.specs.declared.arrangement.AbortCause.{AbortCause}
use Rattle.orderer.specs.declared.report.BatchReport.{BatchReport}
use Rattle.orderer.specs.declared.report.OrderCause.TheVariants.{NoNumber}
use Rattle.orderer.specs.Blocks.{Adds, next_block, next_number, with_batch, number_of}
use Rattle.orderer.specs.declared.making.Tip.{Tip}

pub nothing : (chain : List Block) (es : List Envelope) → es ≡ [] → (with_batch chain es ≡ chain) × (number_of chain es ≡ None)
nothing chain es none = rw none (refl, refl)

pub something : (chain : List Block) (es : List Envelope) → 1 ≤ length es →
    (with_batch chain es ≡ chain ++ next_block chain es ∷ []) × (number_of chain es ≡ Some (next_number chain))
something chain [] some = absurd omega (arith, some)
something chain (e ∷ es) some = (refl, refl)

-- a batch that needs a block after the last number
pub needs_one : (last : ℕ) (arranges : List Envelope → List ℕ → List (ℕ × AbortCause) → Type 0) (old : List Block) (batch : List Envelope)
    (order : List ℕ) (aborted : List (ℕ × AbortCause))
    → arranges batch order aborted → 1 ≤ length (envelopes_at batch order) → length old ≡ last → IsBatchRefused last arranges NoNumber old batch
needs_one last arranges old batch order aborted arranged some full =
    let es = envelopes_at batch order in
    let report : BatchReport = record { block = number_of old es; count = length es; aborted = aborted } in
    let block = something old es some in (
      report,
      with_batch old es,
      (record { order = order; arranged = arranged; chain = refl; number = refl; count = refl }),
      omega (arith, full, ap length block.0, length-append old (next_block old es ∷ [])),
    )

-- a batch of which nothing survives
pub none_made : (arranges : List Envelope → List ℕ → List (ℕ × AbortCause) → Type 0) (chain : List Block) (batch : List Envelope) (order : List ℕ)
    (report : BatchReport)
    → arranges batch order report.aborted → envelopes_at batch order ≡ [] → report.block ≡ None → report.count ≡ 0 → Adds arranges chain batch report (chain ++ [])
none_made arranges chain batch order report arranged none number count =
    let is = nothing chain (envelopes_at batch order) none in
    record { order = order; arranged = arranged; chain = append-nil chain ∙ sym is.0; number = number ∙ sym is.1; count = count ∙ sym (ap length none) }

-- a batch that becomes the block behind a chain
pub one_made : (arranges : List Envelope → List ℕ → List (ℕ × AbortCause) → Type 0) (tip : Tip) (chain : List Block) (batch : List Envelope)
    (order : List ℕ) (report : BatchReport) (block : Block) → tip ≡ tip_of chain → arranges batch order report.aborted →
    1 ≤ length (envelopes_at batch order) → block ≡ next_block chain (envelopes_at batch order) → report.block ≡ Some (suc tip.height) →
    report.count ≡ length (envelopes_at batch order) → Adds arranges chain batch report (chain ++ block ∷ [])
one_made arranges tip chain batch order report block at arranged some is number count =
    let es = envelopes_at batch order in
    let added = something chain es some in
    record {
      order = order;
      arranged = arranged;
      chain = ap (λ (b : Block). chain ++ b ∷ []) is ∙ sym added.0;
      number = number ∙ ap (λ (t : Tip). Some (suc t.height)) at ∙ sym added.1;
      count = count;
    }
