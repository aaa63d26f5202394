-- The last blocks of editions are within the numbers of blocks.
use Rattle.std.proofs.Common.{◌≤◌, arith}
use Rattle.fab_types.specs.Editions.{last_block}
use Rattle.fab_types.specs.declared.edition.Edition.{Edition}
use Rattle.fab_types.specs.declared.edition.Edition.TheVariants.{First, Second}

pub last_block_most : (edition : Edition) → last_block edition ≤ 4000000000
last_block_most First = omega arith
last_block_most Second = omega arith
