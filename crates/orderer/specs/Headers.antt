-- The blocks of batches, and the hashes of their headers.
use Rattle.std.specs.Prelude.{◌≡◌, ℕ, zero, suc, List, Option, None, map, option_map}
use Rattle.std.specs.List.{flat_map, slice_get, AllByRecursion}
use Rattle.std.specs.Option.{option_to_list}
use Rattle.sha2.specs.Sha256.{sha256}
use Rattle.fab_types.specs.BlockSpelling.{header_bytes}
use Rattle.fab_types.specs.declared.block.Block.{Block}
use Rattle.orderer.specs.Making.{number_in}
use Rattle.orderer.specs.declared.making.Made.{Made}
use Rattle.orderer.specs.declared.report.BatchReport.{BatchReport}

abbrev pub header_hash : Block → List ℕ
header_hash block = sha256 (header_bytes block.header)

abbrev pub hashes_of : List Block → List (List ℕ)
hashes_of blocks = map header_hash blocks

-- that of the block of a number, from 1 on
abbrev pub hash_at : List Block → ℕ → Option (List ℕ)
hash_at chain zero = None
hash_at chain (suc place) = option_map header_hash (slice_get chain place)

-- the blocks that batches became, and their reports
abbrev pub blocks_made : List Made → List Block
blocks_made made = flat_map (λ each. option_to_list each.block) made

abbrev pub reports_made : List Made → List BatchReport
reports_made made = map (λ each. each.report) made

-- each with a block of the number in its report
abbrev pub AreOwn : List Made → Type 0
AreOwn made = AllByRecursion (λ each. each.report.block ≡ number_in each.block) made
