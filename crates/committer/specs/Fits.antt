-- Which block fits at the end of a chain.
use Rattle.std.specs.Prelude.{◌≡◌, ◌≢◌, ◌<◌, List, length}
use Rattle.sha2.specs.Sha256.{sha256}
use Rattle.fab_types.specs.declared.block.Block.{Block}
use Rattle.fab_types.specs.BlockSpelling.{data_bytes}
use Rattle.wire.specs.Links.{next_link, next_number}
pub use Rattle.world_state.specs.Kept.{blocks_of}
use Rattle.committer.specs.declared.refusal.CommitRefusal.{CommitRefusal}
use Rattle.committer.specs.declared.refusal.CommitRefusal.TheVariants.{Number, PreviousHash, DataHash, AtEnd, Memory}

-- there is room, and the block has the next number, names the hash of the last header, and says the hash of its data
pub record Fits (blocks : List Block) (block : Block) : Type 0 where
  pub room : length blocks < 4000000000
  pub number : block.header.number ≡ next_number blocks
  pub previous_hash : block.header.previous_hash ≡ next_link blocks
  pub data_hash : block.header.data_hash ≡ sha256 (data_bytes block.envelopes)

-- what is tested of a block before any memory is taken: there is room, and it has the next number and names the hash of the last header
abbrev pub IsNext : List Block → Block → Type 0
IsNext blocks block =
    (length blocks < 4000000000) × (block.header.number ≡ next_number blocks) × (block.header.previous_hash ≡ next_link blocks)

-- the first of these tests that fails; want of memory stands behind those that take none
abbrev pub IsRefused : CommitRefusal → List Block → Block → Type 0
IsRefused AtEnd blocks block = length blocks ≡ 4000000000
IsRefused Number blocks block = (length blocks < 4000000000) × (block.header.number ≢ next_number blocks)
IsRefused PreviousHash blocks block =
    (length blocks < 4000000000) × (block.header.number ≡ next_number blocks) × (block.header.previous_hash ≢ next_link blocks)
IsRefused DataHash blocks block =
    (length blocks < 4000000000) × (block.header.number ≡ next_number blocks) × (block.header.previous_hash ≡ next_link blocks) ×
    (block.header.data_hash ≢ sha256 (data_bytes block.envelopes))
IsRefused Memory blocks block = IsNext blocks block
