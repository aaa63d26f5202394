-- What the report of a line tells by ids.
use Rattle.std.specs.Prelude.{◌≡◌, ℕ, List, [], ◌∷◌, ◌++◌, map, Some}
use Rattle.std.specs.List.{slice_get, AllZip}
use Rattle.std.specs.Option.{option_to_list}
use Rattle.fab_types.specs.Size.{envelope_size}
use Rattle.fab_types.specs.declared.envelope.Envelope.{Envelope}
use Rattle.batch_cutter.specs.Division.{IsDivision, Mark, message, timeout}
use Rattle.wire.specs.Ids.{id_of}
use Rattle.orderer.specs.Ordering.{Ordering}
use Rattle.log_orderer.specs.Ids.{ids_of}
use Rattle.log_orderer.specs.Lines.{IsMark}
use Rattle.log_orderer.specs.declared.batch.LogBatch.{LogBatch}
use Rattle.log_orderer.specs.declared.replica.LineReport.{LineReport}
use Rattle.log_orderer.specs.declared.replica.LineReport.TheVariants.{Accepted, Ticked, Skipped}

-- at each place that the report of a batch leaves out stands the envelope of that id
abbrev pub IsNamed : List Envelope → LogBatch → Type 0
IsNamed envelopes batch = map Some batch.aborted ≡ map (λ left. slice_get (ids_of envelopes) left.0) batch.report.aborted

-- whatever the batches are into which the mark cuts what waited, these tell the ids of them, batch by batch
abbrev pub AreNamed : Ordering → Mark Envelope → List LogBatch → Type 0
AreNamed old mark batches =
    (cut : List (List Envelope)) (pending : List Envelope) →
    IsDivision envelope_size old.limits (map message old.pending ++ mark ∷ []) cut pending → AllZip IsNamed cut batches

-- a line that is accepted is an envelope, told by its id, and one that ticks is `tick`; both tell the ids of what is left out
abbrev pub TellsIds : LineReport → Ordering → List ℕ → Type 0
TellsIds (Accepted id batches) old line =
    (e : Envelope) × IsMark line (message e) × (id ≡ id_of e.payload.proposal) × AreNamed old (message e) batches
TellsIds (Ticked batch) old line = IsMark line timeout × AreNamed old timeout (option_to_list batch)
TellsIds (Skipped skip) old line = Unit {0}
