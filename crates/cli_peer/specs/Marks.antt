-- Whether the text of a log's line is a mark that an orderer reads, and whether it names a genesis.
use Rattle.std.specs.Prelude.{◌≡◌, ◌≢◌, ◌++◌, ℕ, Bool, true, false, List, codes}
use Rattle.batch_cutter.specs.Division.{Mark}
use Rattle.fab_types.specs.declared.envelope.Envelope.{Envelope}
use Rattle.log_orderer.specs.Lines.{IsMark, IsNoMark}

-- what it is to be told by `true`, and by `false`
abbrev pub IsMarkOrNone : List ℕ → Bool → Type 0
IsMarkOrNone line true = (mark : Mark Envelope) × IsMark line mark
IsMarkOrNone line false = IsNoMark line

-- it names a genesis by the SHA-256 of its file in hex, and it is not this one
abbrev pub NamesAnotherIn : (digest : List ℕ) → List ℕ → Type 0
NamesAnotherIn digest text = (named : List ℕ) × (text ≡ codes "genesis " ++ named) × (named ≢ digest)
