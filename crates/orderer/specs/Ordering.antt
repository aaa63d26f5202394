-- What an orderer has made of the marks that it was given, and one step of it.
use Rattle.std.specs.Prelude.{◌≡◌, Bool, ◌<◌, ◌≤◌, List, [], ◌∷◌, ◌++◌, length, map}
use Rattle.fab_types.specs.Editions.{last_block}
use Rattle.fab_types.specs.Size.{envelope_size}
use Rattle.fab_types.specs.declared.edition.Edition.{Edition}
use Rattle.fab_types.specs.declared.envelope.Envelope.{Envelope}
use Rattle.fab_types.specs.declared.block.Block.{Block}
use Rattle.batch_cutter.specs.Division.{Limits, Mark, message, timeout, IsDivision}
use Rattle.orderer.specs.Blocks.{AddsEach}
use Rattle.orderer.specs.Arranged.{arranges_by}
use Rattle.orderer.specs.declared.report.BatchReport.{BatchReport}
use Rattle.orderer.specs.declared.report.OrderCause.{OrderCause}
use Rattle.orderer.specs.declared.report.OrderCause.TheVariants.{TooLarge, NoNumber, Memory}

-- the edition of the ledger's rules, whether batches are put in a legal order, the limits, the envelopes that wait, and the chain
pub record Ordering : Type 0 where
  pub edition : Edition
  pub reorder : Bool
  pub limits : Limits
  pub pending : List Envelope
  pub chain : List Block

-- limits within the ledger's
pub record AreLimits (limits : Limits) : Type 0 where
  pub some : 0 < limits.count
  pub count : limits.count ≤ 512
  pub preferred : limits.preferred ≤ 524288
  pub absolute : limits.absolute ≤ 524288

-- the marks are cut, the batches make the chain, and the rest waits
pub record IsOrdered (marks : List (Mark Envelope)) (now : Ordering) : Type 0 where
  pub batches : List (List Envelope)
  pub reports : List BatchReport
  pub cut : IsDivision envelope_size now.limits marks batches now.pending
  pub made : AddsEach (arranges_by now.reorder) [] batches reports now.chain

-- one mark more: what waited is cut with it, and the new batches are put at the end and reported
pub record Takes (old : Ordering) (mark : Mark Envelope) (reports : List BatchReport) (new : Ordering) : Type 0 where
  pub batches : List (List Envelope)
  pub cut : IsDivision envelope_size old.limits (map message old.pending ++ mark ∷ []) batches new.pending
  pub added : AddsEach (arranges_by old.reorder) old.chain batches reports new.chain
  pub limits : new.limits ≡ old.limits
  pub reorder : new.reorder ≡ old.reorder
  pub edition : new.edition ≡ old.edition

-- a message above the absolute size is too large; a timeout never is
abbrev pub IsTooLarge : Limits → Mark Envelope → Type 0
IsTooLarge limits (message e) = limits.absolute < envelope_size e
IsTooLarge limits timeout = ⊥

-- the mark is not too large, and one of the new batches needs a block past the last one that the rules allow
pub record RunsOut (old : Ordering) (mark : Mark Envelope) : Type 0 where
  pub fits : ¬ IsTooLarge old.limits mark
  pub first : List (List Envelope)
  pub others : List (List Envelope)
  pub pending : List Envelope
  pub cut : IsDivision envelope_size old.limits (map message old.pending ++ mark ∷ []) (first ++ others) pending
  pub reports : List BatchReport
  pub chain : List Block
  pub added : AddsEach (arranges_by old.reorder) old.chain first reports chain
  pub past : last_block old.edition < length chain

-- where each refusal comes. The size is tested before any memory is taken
abbrev pub IsRefused : OrderCause → Ordering → Mark Envelope → Type 0
IsRefused TooLarge old mark = IsTooLarge old.limits mark
IsRefused NoNumber old mark = RunsOut old mark
IsRefused Memory old mark = ¬ IsTooLarge old.limits mark

-- nothing waits, and there are no blocks
abbrev pub IsOpening : Ordering → Type 0
IsOpening now = (now.pending ≡ []) × (now.chain ≡ [])
