-- A log that is cut.
use Rattle.std.specs.Prelude.{◌≡◌, ℕ, List, [], ◌++◌, Option}
use Rattle.orderer.specs.Ordering.{AreLimits, Ordering}
use Rattle.orderer.specs.declared.report.BatchReport.{BatchReport}
use Rattle.log_orderer.specs.Log.{ReadsEach}
use Rattle.log_orderer.specs.Marks.{marks_of}
use Rattle.log_system.specs.Machines.{Setting, unread}

-- of a log's front nothing waits, and the marks of the chain that it makes stand for it
pub record IsCut (s : Setting) (log cut : List (List ℕ)) : Type 0 where
  pub limits : AreLimits s.limits
  pub front : List (List ℕ)
  pub back : List (List ℕ)
  pub parts : front ++ back ≡ log
  pub answers : List (Option (List BatchReport))
  pub here : Ordering
  pub reads : ReadsEach (unread s) front answers here
  pub idle : here.pending ≡ []
  pub marks : marks_of here.chain ++ back ≡ cut
