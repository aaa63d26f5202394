-- What is known on the way of cutting batches off the ids that wait.
use Rattle.std.specs.Prelude.{◌≡◌, ℕ, ◌+◌, ◌<◌, ◌≤◌, List, [], ◌∷◌, length, map, take, drop, Some}
use Rattle.std.specs.List.{slice_get, AllByRecursion}
use Rattle.orderer.specs.declared.arrangement.AbortCause.{AbortCause}
use Rattle.orderer.specs.declared.report.BatchReport.{BatchReport}
use Rattle.log_orderer.specs.declared.batch.LogBatch.{LogBatch}

-- the ids at the places that are left out
abbrev pub AreAt : List (List ℕ) → List (ℕ × AbortCause) → List (List ℕ) → Type 0
AreAt members aborted ids = map Some ids ≡ map (λ left. slice_get members left.0) aborted

abbrev pub ArePlacesBelow : ℕ → List (ℕ × AbortCause) → Type 0
ArePlacesBelow count aborted = AllByRecursion (λ left. left.0 < count) aborted

-- how many envelopes the batch of a report has
abbrev pub size_of : BatchReport → ℕ
size_of report = report.count + length report.aborted

-- a batch stands at the front of these ids
abbrev pub IsFront : BatchReport → List (List ℕ) → Type 0
IsFront report ids = (size_of report ≤ length ids) × ArePlacesBelow (size_of report) report.aborted

-- batches stand there one after another
abbrev pub AreFront : List BatchReport → List (List ℕ) → Type 0
AreFront [] ids = Unit {0}
AreFront (report ∷ reports) ids = IsFront report ids × AreFront reports (drop (size_of report) ids)

-- there is room for the ids that the first of them tells, and the others tell none
abbrev pub HaveRoom : List BatchReport → ℕ → Type 0
HaveRoom [] room = Unit {0}
HaveRoom (report ∷ reports) room = (length report.aborted ≤ room) × HaveRoom reports 0

-- what is told of the batch at the front
abbrev pub IsCut : BatchReport → List (List ℕ) → LogBatch → Type 0
IsCut report ids batch = (batch.report ≡ report) × AreAt (take (size_of report) ids) report.aborted batch.aborted

-- what is told of the batches there one after another, and the ids behind them
abbrev pub AreCut : List BatchReport → List (List ℕ) → List LogBatch → List (List ℕ) → Type 0
AreCut [] ids batches left = (batches ≡ []) × (left ≡ ids)
AreCut (report ∷ reports) ids batches left =
    (batch : LogBatch) × (later : List LogBatch) × (batches ≡ batch ∷ later) × IsCut report ids batch ×
    AreCut reports (drop (size_of report) ids) later left
