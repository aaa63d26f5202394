-- What the report of a line says.
use Rattle.std.specs.Prelude.{List, map, Option, Some, None, ℕ}
use Rattle.std.specs.Option.{option_to_list}
use Rattle.orderer.specs.Ordering.{Ordering}
use Rattle.orderer.specs.declared.report.BatchReport.{BatchReport}
use Rattle.log_orderer.specs.Skipped.{IsSkippedBy}
use Rattle.log_orderer.specs.declared.batch.LogBatch.{LogBatch}
use Rattle.log_orderer.specs.declared.replica.LineReport.{LineReport}
use Rattle.log_orderer.specs.declared.replica.LineReport.TheVariants.{Accepted, Ticked, Skipped}

abbrev pub reports_of : List LogBatch → List BatchReport
reports_of batches = map (λ batch. batch.report) batches

-- the reports of the batches that the line ended; none where it was skipped
abbrev pub answer_of : LineReport → Option (List BatchReport)
answer_of (Accepted id batches) = Some (reports_of batches)
answer_of (Ticked batch) = Some (reports_of (option_to_list batch))
answer_of (Skipped skip) = None

-- what the number of a skip says is true
abbrev pub IsTrueOf : LineReport → Ordering → List ℕ → Type 0
IsTrueOf (Accepted id batches) old line = Unit {0}
IsTrueOf (Ticked batch) old line = Unit {0}
IsTrueOf (Skipped skip) old line = IsSkippedBy skip old line
