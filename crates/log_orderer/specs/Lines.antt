-- What a line of a log asks an orderer for.
use Rattle.std.specs.Prelude.{◌≡◌, ℕ, List, codes, Ok}
use Rattle.hex.specs.Hex.{decode_of}
use Rattle.fab_types.specs.declared.envelope.Envelope.{Envelope}
use Rattle.batch_cutter.specs.Division.{Mark, message, timeout}
use Rattle.fab_types.specs.BlockSpelling.{envelope_bytes}
use Rattle.fab_types.specs.BlockWithin.{IsEnvelope}

-- the hex of an envelope's bytes is a message, in either case of the letters; `tick` is a timeout
abbrev pub IsMark : List ℕ → Mark Envelope → Type 0
IsMark line (message e) = IsEnvelope e × (decode_of line ≡ Ok (envelope_bytes e))
IsMark line timeout = line ≡ codes "tick"

-- a line has one mark or none (the law `log_laws`, clause `mark`)
abbrev pub IsNoMark : List ℕ → Type 0
IsNoMark line = (mark : Mark Envelope) → ¬ IsMark line mark
