-- The marks by which a chain is cut again.
use Rattle.std.specs.Prelude.{◌≡◌, ℕ, List, [], ◌∷◌, ◌++◌, Option, map, codes}
use Rattle.std.specs.List.{flat_map}
use Rattle.hex.specs.Hex.{encode_lower}
use Rattle.fab_types.specs.declared.block.Block.{Block}
use Rattle.fab_types.specs.declared.envelope.Envelope.{Envelope}
use Rattle.fab_types.specs.BlockSpelling.{envelope_bytes}
use Rattle.orderer.specs.Ordering.{Ordering}
use Rattle.orderer.specs.declared.report.BatchReport.{BatchReport}
use Rattle.log_orderer.specs.Log.{ReadsEach}

-- the line of an envelope
abbrev pub envelope_mark : Envelope → List ℕ
envelope_mark e = encode_lower (envelope_bytes e)

-- the marks of a block: its envelopes in their order, and a tick
abbrev pub block_marks : Block → List (List ℕ)
block_marks b = map envelope_mark b.envelopes ++ codes "tick" ∷ []

-- and those of blocks, one after another
abbrev pub marks_of : List Block → List (List ℕ)
marks_of blocks = flat_map block_marks blocks

-- who has read nothing reads the marks of a chain, has that chain then, and nothing waits
pub record CutsAgain (unread : Ordering) (chain : List Block) : Type 0 where
  pub answers : List (Option (List BatchReport))
  pub replica : Ordering
  pub reads : ReadsEach unread (marks_of chain) answers replica
  pub chain_is : replica.chain ≡ chain
  pub idle : replica.pending ≡ []
