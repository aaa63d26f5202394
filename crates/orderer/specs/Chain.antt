-- The chain of which the maker of its blocks keeps the hashes of the headers alone.
use Rattle.std.specs.Prelude.{[], ◌++◌}
use Rattle.std.specs.Option.{option_to_list}
use Rattle.orderer.specs.declared.making.Made.{Made}
use Rattle.orderer.specs.declared.chain.Chain.{Chain}

abbrev pub no_blocks : Chain
no_blocks = record { blocks = [] }

-- with the block of a batch, if there is one
abbrev pub followed_by : Chain → Made → Chain
followed_by chain made = record { blocks = chain.blocks ++ option_to_list made.block }
