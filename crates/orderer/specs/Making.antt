-- What the next block needs of the chain before it.
use Rattle.std.specs.Prelude.{ℕ, List, Option, Some, None, length}
use Rattle.fab_types.specs.declared.block.Block.{Block}
use Rattle.orderer.specs.Blocks.{next_link}
use Rattle.orderer.specs.declared.making.Tip.{Tip}

-- how many blocks a chain has, and the hash that the next header names
abbrev pub tip_of : List Block → Tip
tip_of chain = record { height = length chain; link = next_link chain }

-- the number of a block, if there is one
abbrev pub number_in : Option Block → Option ℕ
number_in None = None
number_in (Some block) = Some block.header.number
