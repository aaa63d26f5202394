-- What an orderer makes of a log: it takes the mark that a line is, or skips the line and is as it was.
use Rattle.std.specs.Prelude.{◌≡◌, ◌≤◌, ◌⊎◌, ℕ, List, [], ◌∷◌, length, Option, Some, None}
use Rattle.fab_types.specs.Editions.{last_block}
use Rattle.fab_types.specs.declared.envelope.Envelope.{Envelope}
use Rattle.batch_cutter.specs.Division.{Mark}
use Rattle.orderer.specs.Ordering.{Ordering, Takes, RunsOut, IsTooLarge}
use Rattle.orderer.specs.declared.report.BatchReport.{BatchReport}
use Rattle.log_orderer.specs.Lines.{IsMark, IsNoMark}

-- a mark is taken, with the reports of the batches that it ends: it is not too large, and the rules allow its blocks
abbrev pub TakesMark : Ordering → Mark Envelope → List BatchReport → Ordering → Type 0
TakesMark old mark reports new = Takes old mark reports new × ¬ IsTooLarge old.limits mark × (length new.chain ≤ last_block old.edition)

-- the line is no mark, or its mark is too large, or it needs a block past the last one that the rules allow
abbrev pub IsSkipped : Ordering → List ℕ → Type 0
IsSkipped old line =
    IsNoMark line ⊎ ((mark : Mark Envelope) × IsMark line mark × (IsTooLarge old.limits mark ⊎ RunsOut old mark))

-- one line: the reports where it is taken, none where it is skipped
abbrev pub Reads : Ordering → List ℕ → Option (List BatchReport) → Ordering → Type 0
Reads old line (Some reports) new = (mark : Mark Envelope) × IsMark line mark × TakesMark old mark reports new
Reads old line None new = IsSkipped old line × (new ≡ old)

-- one line after another
abbrev pub ReadsEach : Ordering → List (List ℕ) → List (Option (List BatchReport)) → Ordering → Type 0
ReadsEach old [] answers new = (answers ≡ []) × (new ≡ old)
ReadsEach old (line ∷ lines) answers new =
    (answer : Option (List BatchReport)) × (later : List (Option (List BatchReport))) × (next : Ordering) × (answers ≡ answer ∷ later) ×
    Reads old line answer next × ReadsEach next lines later new
