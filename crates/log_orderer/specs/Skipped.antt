-- What the number of a skip says of the line, and of what was read before it.
use Rattle.std.specs.Prelude.{◌≡◌, ◌≢◌, ℕ, List, codes, Ok}
use Rattle.hex.specs.Hex.{decode_of}
use Rattle.fab_types.specs.declared.envelope.Envelope.{Envelope}
use Rattle.batch_cutter.specs.Division.{Mark}
use Rattle.wire.specs.Faults.{Says}
use Rattle.fab_types.specs.BlockSpelling.{envelope_bytes}
use Rattle.fab_types.specs.BlockWithin.{IsEnvelope}
use Rattle.wire.specs.declared.fault.WireFault.{WireFault}
use Rattle.wire.specs.declared.fault.WireFault.TheVariants as wire
use Rattle.orderer.specs.Ordering.{Ordering, IsTooLarge, RunsOut}
use Rattle.log_orderer.specs.Lines.{IsMark, IsNoMark}
use Rattle.log_orderer.specs.declared.skip.Skip.{Skip}
use Rattle.log_orderer.specs.declared.skip.Skip.TheVariants.{NoHex, EndedEarly, EnvelopeLength, NotCanonical, Limit, BytesLeft, TooLarge, NoNumber}

-- the line is the hex of bytes that are no envelope, and the fault says why
abbrev pub IsNoEnvelope : WireFault → List ℕ → Type 0
IsNoEnvelope fault line =
    IsNoMark line × ((bytes : List ℕ) × (decode_of line ≡ Ok bytes) × Says fault IsEnvelope envelope_bytes bytes)

-- the line is neither `tick` nor hex, or it is no envelope, or its mark is refused
abbrev pub IsSkippedBy : Skip → Ordering → List ℕ → Type 0
IsSkippedBy NoHex old line = (line ≢ codes "tick") × ((bytes : List ℕ) → decode_of line ≢ Ok bytes)
IsSkippedBy EndedEarly old line = IsNoEnvelope wire.EndedEarly line
IsSkippedBy EnvelopeLength old line = IsNoEnvelope wire.EnvelopeLength line
IsSkippedBy NotCanonical old line = IsNoEnvelope wire.NotCanonical line
IsSkippedBy Limit old line = IsNoEnvelope wire.Limit line
IsSkippedBy BytesLeft old line = IsNoEnvelope wire.BytesLeft line
IsSkippedBy TooLarge old line = (mark : Mark Envelope) × IsMark line mark × IsTooLarge old.limits mark
IsSkippedBy NoNumber old line = (mark : Mark Envelope) × IsMark line mark × RunsOut old mark
