-- The blocks that come with the report of a line.
use Rattle.std.specs.Prelude.{◌≡◌, List, [], ◌++◌}
use Rattle.std.specs.List.{flat_map, AllByRecursion}
use Rattle.std.specs.Option.{option_to_list}
use Rattle.fab_types.specs.declared.block.Block.{Block}
use Rattle.orderer.specs.Making.{number_in}
use Rattle.log_orderer.specs.declared.batch.LogBatch.{LogBatch}
use Rattle.log_orderer.specs.declared.replica.LineReport.{LineReport}
use Rattle.log_orderer.specs.declared.replica.LineReport.TheVariants.{Accepted, Ticked, Skipped}

-- the batches that the line ended
abbrev pub batches_of : LineReport → List LogBatch
batches_of (Accepted id batches) = batches
batches_of (Ticked batch) = option_to_list batch
batches_of (Skipped skip) = []

abbrev pub blocks_of : List LogBatch → List Block
blocks_of batches = flat_map (λ batch. option_to_list batch.block) batches

-- each comes with the block of its number, and by these blocks the chain is longer
pub record HandsOut (report : LineReport) (old new : List Block) : Type 0 where
  pub chain : new ≡ old ++ blocks_of (batches_of report)
  pub own : AllByRecursion (λ batch. batch.report.block ≡ number_in batch.block) (batches_of report)
