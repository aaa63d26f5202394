-- What is known on the way of reading a line.
use Rattle.std.specs.Prelude.{◌≡◌, ℕ, List}
use Rattle.std.specs.Option.{option_to_list}
use Rattle.fab_types.specs.declared.envelope.Envelope.{Envelope}
use Rattle.batch_cutter.specs.Division.{Mark, message, timeout}
use Rattle.wire.specs.declared.fault.WireFault.{WireFault}
use Rattle.wire.specs.declared.fault.WireFault.TheVariants as wire
use Rattle.orderer.specs.Ordering.{Ordering, IsTooLarge, RunsOut}
use Rattle.orderer.specs.declared.report.OrderCause.{OrderCause}
use Rattle.orderer.specs.declared.report.OrderCause.TheVariants as cause
use Rattle.log_orderer.specs.Lines.{IsNoMark}
use Rattle.log_orderer.specs.Log.{TakesMark}
use Rattle.log_orderer.specs.Reported.{reports_of}
use Rattle.log_orderer.specs.Skipped.{IsSkippedBy}
use Rattle.log_orderer.specs.declared.asked.Asked.{Asked}
use Rattle.log_orderer.specs.declared.asked.Asked.TheVariants.{Accept, Tick}
use Rattle.log_orderer.specs.declared.asked.Unread.{Unread}
use Rattle.log_orderer.specs.declared.asked.Unread.TheVariants.{Memory, Nothing}
use Rattle.log_orderer.specs.declared.replica.LineReport.{LineReport}
use Rattle.log_orderer.specs.declared.replica.LineReport.TheVariants.{Accepted, Ticked, Skipped}
use Rattle.log_orderer.specs.declared.skip.Skip.{Skip}
use Rattle.log_orderer.specs.declared.skip.Skip.TheVariants.{EndedEarly, EnvelopeLength, NotCanonical, Limit, BytesLeft, TooLarge, NoNumber}

abbrev pub mark_of : Asked → Mark Envelope
mark_of (Accept envelope) = message envelope
mark_of Tick = timeout

abbrev pub unread_of : WireFault → Unread
unread_of wire.Memory = Memory
unread_of wire.EndedEarly = Nothing EndedEarly
unread_of wire.EnvelopeLength = Nothing EnvelopeLength
unread_of wire.NotCanonical = Nothing NotCanonical
unread_of wire.Limit = Nothing Limit
unread_of wire.BytesLeft = Nothing BytesLeft

-- but for want of memory, the line is no mark, and is skipped whatever was read before it
abbrev pub IsUnread : Unread → List ℕ → Type 0
IsUnread Memory line = Unit {0}
IsUnread (Nothing skip) line = IsNoMark line × ((old : Ordering) → IsSkippedBy skip old line)

-- why a mark is refused
abbrev pub IsMarkSkipped : Skip → Ordering → Mark Envelope → Type 0
IsMarkSkipped TooLarge old mark = IsTooLarge old.limits mark
IsMarkSkipped NoNumber old mark = RunsOut old mark
IsMarkSkipped _ old mark = ⊥

-- how a mark is answered
abbrev pub AnswersMark : Ordering → Mark Envelope → LineReport → Ordering → Type 0
AnswersMark old mark (Accepted id batches) new = TakesMark old mark (reports_of batches) new
AnswersMark old mark (Ticked batch) new = TakesMark old mark (reports_of (option_to_list batch)) new
AnswersMark old mark (Skipped skip) new = IsMarkSkipped skip old mark × (new ≡ old)

-- the skip of a refusal; none for want of memory
abbrev pub IsSkipOf : OrderCause → LineReport → Type 0
IsSkipOf cause.TooLarge report = report ≡ Skipped TooLarge
IsSkipOf cause.NoNumber report = report ≡ Skipped NoNumber
IsSkipOf cause.Memory report = ⊥
